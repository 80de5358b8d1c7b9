-- `lines::Printer::put` meets its contract: the bytes passed are copied. Assumes nothing.
use Rattle.std.proofs.Common.{ℕ, ◌+◌, ◌-◌, ◌≤◌, ◌≡◌, List, length, refl, sym, ap, ◌∙◌, arith}
use Rattle.std.proofs.Math.Seq.{sets, length-sets, take-length}
use Rattle.std.proofs.lemmas.List.Edits.{sets-eq}
use Rattle.std.proofs.lemmas.Slice.{put_mid-paste}
use borrow.Rule.Slice.PartMut.{put_mid}
use Rattle.lines.proofs.Printer.put.Goals as goal

copied : (l s t : List ℕ) (at k : ℕ) → at + length s ≤ length l → t ≡ s → length s ≡ k → put_mid at k l t ≡ sets l at s
copied l s t at k room e n =
    put_mid-paste at k l t s (length s) e n refl ∙ rw take-length (sym (sets-eq s l at room))

pub returns : goal.returns
returns c =
    let a = c.args.self.now in
    let s = c.args.src.now in
    let left : put_mid a.at (a.at + length s - a.at) a.out.now c.copy_from_slice.new.self ≡ sets a.out.now a.at s =
    copied a.out.now s c.copy_from_slice.new.self a.at (a.at + length s - a.at) (omega arith) c.copy_from_slice.ensures.after (omega arith) in
    record { wrote = record { ends = refl; left = left }; fits = omega arith; same = refl; long = ap length left ∙ length-sets a.out.now a.at s }
