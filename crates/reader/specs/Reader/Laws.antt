-- A text is read by the rules of the edition that is told of it, and two outcomes that meet the call's contract are equal. Assumes nothing.
use Rattle.std.specs.Prelude.{ℕ, ◌≡◌, List}
use Rattle.std.proofs.Common.{ap}
use Rattle.network.specs.Network.{Network}
use Rattle.network.specs.BranchTable.{BranchNetwork}
use Rattle.trailer.specs.Trailer.{edition_of}
use Rattle.trailer.specs.declared.Edition.{Edition}
use Rattle.trailer.specs.declared.Edition.TheVariants.{First, Second}
use Rattle.case_text.specs.Answer.{read_result, paper_of, read_first, read_second}
use Rattle.case_text.proofs.Unique.{one-result}
use Rattle.reader.specs.Reader.{Columns, columns_of, branches_in, with_first, with_second, read_of}
use Rattle.case_text.specs.Text.{Reading}

module _ (s : List ℕ) (old : Columns) (x : Edition) (is : x ≡ edition_of s) where
  pub read-as-first : x ≡ First → (v : Reading) (new : Network) → read_result (paper_of v) new ≡ read_first s old.network
      → read_result (paper_of v) (columns_of new old.table) ≡ read_of s old
  unfolding read_of
  read-as-first e v new h = rw (← is, e) (ap (with_first old) h)

  pub read-as-second : x ≡ Second → (v : Reading) (new : BranchNetwork) → read_result (paper_of v) new ≡ read_second s (branches_in old)
      → with_second old (read_result (paper_of v) new) ≡ read_of s old
  unfolding read_of
  read-as-second e v new h = rw (← is, e) (ap (with_second old) h)

-- two outcomes that meet the contract are equal, lent memory included
pub same_outcome : (s : List ℕ) (old : Columns) (r₁ r₂ : Reading) (new₁ new₂ : Columns) → read_result (paper_of r₁) new₁ ≡ read_of s old
    → read_result (paper_of r₂) new₂ ≡ read_of s old → (r₁ ≡ r₂) × (new₁ ≡ new₂)
same_outcome s old = one-result (read_of s old)
