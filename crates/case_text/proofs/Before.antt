-- Any first-edition text is read as it was by 01's digit rule, its columns too, or it is moved. Assumes nothing.
use Rattle.std.specs.Prelude.{ℕ, ◌≡◌, ◌⊎◌, List, Ok, Err}
use Rattle.std.proofs.Math.Path.{refl, sym}
use Rattle.std.proofs.Common.{◌∙◌}
use Rattle.std.proofs.Math.Logic.{inl, inr, ⊎_elim}
use Rattle.network.specs.Network.{Network, room_of}
use Rattle.fields.specs.Before.{allowed_before}
use Rattle.trailer.specs.Trailer.{trailer_start}
use Rattle.trailer.specs.declared.Edition.TheVariants.{First}
use Rattle.case_text.specs.Text.{Reading, text_by, checked_text}
use Rattle.case_text.specs.Answer.{paper_of, with_room, read_result, result_of, read_first_by, read_first}
use Rattle.case_text.specs.Before.{MovedText}
use Rattle.case_text.specs.Before.Laws.{text-before, read_kept}

module _ (s : List ℕ) where
  -- any text does, or it is moved
  pub read-before : (old : Network) → (read_first s old ≡ read_first_by allowed_before s old) ⊎ MovedText s (trailer_start First s) (text_by allowed_before First s) (checked_text First s)
  unfolding read_first_by
  read-before old = ⊎_elim (λ e. inl (go (text_by allowed_before First s) refl (sym e))) (λ m. inr m) (text-before s)
    where
      refusal : (v : Reading) → text_by allowed_before First s ≡ v → checked_text First s ≡ v
          → ((n : Network) → result_of (with_room v (room_of old)) n old ≡ read_result (paper_of v) old) → read_first s old ≡ read_first_by allowed_before s old
      refusal v h e same = rw (h, e) (same _ ∙ sym (same _))

      go : (v : Reading) → text_by allowed_before First s ≡ v → checked_text First s ≡ v → read_first s old ≡ read_first_by allowed_before s old
      go (Ok c) h e = read_kept s c h old
      go (Err f) h e = refusal (Err f) h e (λ r. refl)
