-- Every row of 01's table of proved examples holds. Assumes nothing.
use mathlib.Core.Bool.{true}
use mathlib.Core.Path.{◌≡◌, ap}
use mathlib.Core.List.{List, [], ◌∷◌}
use lib.Dec.{leb}
use lib.ListN.{length}
use lib.Ieee.{Float}
use Rattle.real.proofs.Examples.{norm-of-nothing, norm-of-two, norm-of-nan}
use Rattle.mix.proofs.Examples.{mix-of-nothing}
use Rattle.trig.proofs.Examples.{sine-of-0, cosine-of-0, sine-of-1025}
use Rattle.linsolve.proofs.Examples.{pair-solved, pair-gives, zero-singular}
use Rattle.islands.proofs.Examples.{labels-of-five}
use Rattle.layout.proofs.Examples.{angle-columns-of-svqq, magnitude-columns-of-svqq}
use Rattle.fields.proofs.Examples.{minus-zero, minus-quarter, point-last}
use Rattle.case_text.proofs.Examples.{point_text, point-edition, point-refused}
use Rattle.lines.specs.Lines.{decimal_by, printed_values, refused_line}
use Rattle.answered.specs.TextAnswer.{blank, after_first, text_answer_by}
use Rattle.report.specs.Report.{Report, blanks, reported, report_by, report_of}
use Rattle.report.proofs.Examples.{listing-reported}
use Rattle.desk.specs.Examples.{Value, bytes, numbers, reals, field, solve, Hold, table}

-- one real
abbrev real : Float → Value
real x = reals (x ∷ [])

point-printed : (w : List Float) → (report_of point_text w).bytes ≡ 114 ∷ 101 ∷ 102 ∷ 117 ∷ 115 ∷ 101 ∷ 100 ∷ 32 ∷ 53 ∷ 32 ∷ 52 ∷ 10 ∷ []
unfolding report_by text_answer_by refused_line printed_values decimal_by
point-printed w = rw point-edition (ap (λ r. (reported (after_first r blanks w)).bytes) (point-refused blank))

pub examples-hold : (w : List Float) → leb 6144 (length w) ≡ true → Hold (table w)
examples-hold w h = (
  ap (λ (r : Report). bytes r.bytes) (listing-reported w h),
  (
    ap real mix-of-nothing,
    (
      ap real norm-of-nothing,
      (
        ap real norm-of-two,
        (
          ap real norm-of-nan,
          (
            ap field minus-zero,
            (
              ap field minus-quarter,
              (
                ap field point-last,
                (
                  ap bytes (point-printed w),
                  (
                    ap numbers angle-columns-of-svqq,
                    (
                      ap numbers magnitude-columns-of-svqq,
                      (
                        ap numbers labels-of-five,
                        (
                          ap real sine-of-0,
                          (
                            ap real cosine-of-0,
                            (
                              ap real sine-of-1025,
                              (
                                ap solve pair-solved,
                                (
                                  ap reals pair-gives,
                                  (ap solve zero-singular, tt),
                                ),
                              ),
                            ),
                          ),
                        ),
                      ),
                    ),
                  ),
                ),
              ),
            ),
          ),
        ),
      ),
    ),
  ),
)
