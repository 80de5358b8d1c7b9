-- `fields::whole` meets its contract: the digits left, after the number so far, give what all of them give, and the number stays below the limit. Assumes nothing.
use Rattle.std.proofs.Common.{◌≤◌, leb, get_or, length, sym, ap, ◌∙◌, arith, leb-true}
use Rattle.std.proofs.Math.Seq.{take-length}
use Rattle.real.specs.Tests.{and_right}
use Rattle.fields.specs.Digits.{limited_of}
use Rattle.fields.specs.Digits.Laws.{not_digit_ends, limited-full, digit_goes_on, limited-end}
use Rattle.fields.proofs.whole.Goals as goal

pub loop-b-init : goal.loop-b-init
loop-b-init c = let a = c.args in (c.requires, ap (limited_of a.from) (take-length a.f.now))

pub returns-then-not-is_ascii_digit : goal.returns-then-not-is_ascii_digit
returns-then-not-is_ascii_digit c =
    let f = c.args.f.now in
    let l = c.loop-b in
    sym (not_digit_ends f l.b-index (length f) l.m (omega arith) (omega arith) (sym c.is_ascii_digit.ensures.value ∙ c.if-not-is_ascii_digit.true)) ∙ l.invariant.1

pub returns-then-m-gt99999999999999 : goal.returns-then-m-gt99999999999999
returns-then-m-gt99999999999999 c =
    let f = c.args.f.now in
    let l = c.loop-b in
    sym (limited-full f l.b-index (length f) l.m (omega arith) (omega arith) c.if-m-gt99999999999999.true) ∙ l.invariant.1

pub loop-b-preserved : goal.loop-b-preserved
loop-b-preserved c =
    let f = c.args.f.now in
    let l = c.loop-b in
    let d = sym c.is_ascii_digit.ensures.value ∙ c.if-not-is_ascii_digit.false in
    let high : get_or f l.b-index 0 ≤ 57 = leb-true _ 57 (and_right (leb 48 (get_or f l.b-index 0)) _ d) in
    (omega arith, sym (digit_goes_on f l.b-index (length f) l.m (omega arith) (omega arith) d) ∙ l.invariant.1)

pub returns : goal.returns
returns c =
    let f = c.args.f.now in
    let l = c.loop-b in
    sym (limited-end f l.b-index (length f) l.m (omega arith) (omega arith) l.invariant.0) ∙ l.invariant.1
