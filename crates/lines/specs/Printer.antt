-- A printer: a lent buffer, and the place from which it is written on.
pub mod Laws
use Rattle.std.specs.Prelude.{ℕ, ◌+◌, ◌≤◌, ◌≡◌, List, length}
use Rattle.lines.specs.Lines.{Wrote}
use Rattle.lines.specs.declared.Printer.{Printer}
use Rattle.outcome.specs.declared.AnswerColumns.{AnswerColumns}

-- there is room for n more bytes
abbrev pub HasRoom : Printer → ℕ → Type 0
HasRoom p n = p.at + n ≤ length p.out.now

-- the bytes, at most so many, stand in the buffer from the printer's old place up to its new one; it is the buffer that was lent, as long as before
pub record Printed (bytes : List ℕ) (most : ℕ) (old new : Printer) : Type 0 where
  pub wrote : Wrote old.out.now old.at bytes new.at new.out.now
  pub fits : new.at ≤ old.at + most
  pub same : new.out.ghost_name ≡ old.out.ghost_name
  pub long : length new.out.now ≡ length old.out.now

-- at least one place per bus in each column
pub record OnePerBus (n : ℕ) (b : AnswerColumns) : Type 0 where
  pub kinds : n ≤ length b.kinds.now
  pub vm : n ≤ length b.vm.now
  pub va : n ≤ length b.va.now
  pub p : n ≤ length b.p.now
  pub q : n ≤ length b.q.now
