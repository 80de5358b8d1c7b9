-- 01's listing, computed: one slack bus with the admittance 2 - 8j is solved at the first start. And a case without buses. Assumes nothing.
use mathlib.Core.Bool.{Bool, true, cond}
use mathlib.Core.Path.{◌≡◌, ap}
use mathlib.Core.List.{List, [], ◌∷◌}
use lib.ListN.{length, set}
use lib.Ieee.{Float, nan, of_int, of_bits, add, sub, mul, div, neg, lt, le, is_nan}
use Rattle.real.specs.Literals.{double}
use Rattle.real.specs.Tests.{both}
use Rattle.real.specs.Norm.{norm_of}
use Rattle.real.specs.Real.{absolute}
use Rattle.network.specs.Network.{Network, buses_of, slacks_of, generators_of, branches_of, triplets_of, network_of}
use Rattle.network.specs.Checks.{counted}
use Rattle.network.specs.Missing.{in_column, in_ends, missing_in}
use Rattle.trig.specs.Sine.{sin_cos_of}
use Rattle.real.specs.Any.{any_below}
use Rattle.real.specs.First.{first_below}
use Rattle.real.specs.Each.{each}
use Rattle.islands.specs.Islands.{group_of, lowest, tally, labels_of}
use Rattle.layout.specs.Kinds.{kinds_of}
use Rattle.layout.specs.Layout.{count_to, layout_of}
use Rattle.layout.specs.Limits.{sum_at, limits_of}
use Rattle.layout.specs.Table.{stores}
use Rattle.injections.specs.Injections.{voltages_of, currents_to, phasors_of, injected_of}
use Rattle.newton.specs.Newton.{measured_of, steps_from, newton_of}
use Rattle.moves.specs.Moves.{move_of, moves_of, pinned, kept_kinds, schedule_of, letters_of}
use Rattle.qlim.specs.Rounds.{round_of, rounds_from, qlim_of}
use Rattle.starts.specs.References.{later_row, references_of}
use Rattle.starts.specs.Starts.{case_of, flat_of}
use Rattle.pf_ac.specs.WithStart.{ac_pf_of}
use Rattle.pf_ac.specs.Search.{nth_start, better_of, try_of, search_from, search_of}
use Rattle.outcome.specs.Outcome.{Outs, outs, ok, lengths_in, roomy, with_answer, zeros}
use Rattle.tables.specs.Tables.{answer, checked_of, run_of, after_check, solve_of}
use Rattle.std.specs.Prelude.{Ok, Err}
use Rattle.outcome.specs.declared.Refusal.TheVariants.{Room}
use Rattle.starts.specs.declared.AcStart.{AcStart}
use Rattle.starts.specs.declared.AcStart.TheVariants.{Flat, Case}

abbrev pub listing : Network
listing =
    network_of
    (buses_of (81 ∷ []) (double 1 ∷ []) (double 0 ∷ []) (double 0 ∷ []) (double 0 ∷ []) (double 0 ∷ []) (nan ∷ []) (nan ∷ []))
    (slacks_of (0 ∷ []) (double 0 ∷ []))
    (generators_of [] [] [])
    (branches_of [] [])
    (triplets_of (0 ∷ []) (0 ∷ []) (double 2 ∷ []) (neg (double 8) ∷ []))

-- the columns with the bus's voltage, powers and letter (83 is S) in their first places
abbrev pub row : Outs → Outs
row o = outs (set o.vm 0 (double 1)) (set o.va 0 (double 0)) (set o.p 0 (double 2)) (set o.q 0 (double 8)) (set o.kinds 0 83)

-- whatever stood in the columns and in the workspace
pub listing-solved : (o : Outs) (w : List Float) → roomy 1 (lengths_in o) (length w) ≡ true → solve_of Flat listing o w ≡ answer (ok 0 (double 0)) (row o) (zeros w)
unfolding norm_of absolute sin_cos_of group_of lowest tally each labels_of any_below kinds_of count_to layout_of sum_at limits_of stores voltages_of currents_to phasors_of injected_of measured_of steps_from newton_of move_of moves_of pinned kept_kinds schedule_of letters_of round_of rounds_from qlim_of later_row references_of flat_of ac_pf_of nth_start better_of try_of search_from search_of both first_below in_column in_ends missing_in counted with_answer checked_of run_of solve_of of_int of_bits add sub mul div neg lt le is_nan
listing-solved o w h = ap (λ (r : Bool). after_check Flat listing o w (cond r (Ok tt) (Err Room))) h

-- no bus, and so no row in any table
abbrev empty : Network
empty = network_of (buses_of [] [] [] [] [] [] [] []) (slacks_of [] []) (generators_of [] [] []) (branches_of [] []) (triplets_of [] [] [] [])

-- "Zero buses is solved, with nothing in the answer": the columns stay as they were
pub no-buses-solved : (start : AcStart) (o : Outs) (w : List Float) → roomy 0 (lengths_in o) (length w) ≡ true
    → solve_of start empty o w ≡ answer (ok 0 (double 0)) o (zeros w)
unfolding norm_of absolute sin_cos_of group_of lowest tally each labels_of any_below kinds_of count_to layout_of sum_at limits_of stores voltages_of currents_to phasors_of injected_of measured_of steps_from newton_of move_of moves_of pinned kept_kinds schedule_of letters_of round_of rounds_from qlim_of later_row references_of flat_of ac_pf_of nth_start better_of try_of search_from search_of both first_below in_column in_ends missing_in counted with_answer checked_of run_of solve_of of_int of_bits add sub mul div neg lt le is_nan case_of
no-buses-solved Flat o w h = ap (λ (r : Bool). after_check Flat empty o w (cond r (Ok tt) (Err Room))) h
no-buses-solved Case o w h = ap (λ (r : Bool). after_check Case empty o w (cond r (Ok tt) (Err Room))) h
