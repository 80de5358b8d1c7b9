-- Three buses and three branches, the last one switched off, computed: the list is that of an independent program, which works the sine out with exact
-- fractions. The branch that is off has its entries, zeros with their signs. Assumes nothing.
use mathlib.Core.Path.{◌≡◌, refl}
use mathlib.Core.List.{[], ◌∷◌}
use Rattle.std.specs.Prelude.{Some, None}
use lib.Ieee.{nan, add, sub, mul, div, neg, lt, is_nan, of_int, of_bits}
use Rattle.real.specs.Literals.{lit, nought, one}
use Rattle.real.specs.Each.{each}
use Rattle.real.specs.Real.{absolute}
use Rattle.trig.specs.Sine.{sin_cos_of}
use Rattle.real.specs.First.{first_below}
use Rattle.network.specs.Network.{branches_of, triplets_of}
use Rattle.network.specs.BranchTable.{BranchTable, values_of, branch_table_of}
use Rattle.ybus.specs.Branch.{y_ff, y_ft, y_tf, y_tt}
use Rattle.ybus.specs.declared.Fault.TheVariants.{Tap, Ends}
use Rattle.ybus.specs.Fault.{fault_at, fault_of}
use Rattle.ybus.specs.Listed.{listed}
use Rattle.ybus.specs.Ybus.{diagonal, ybus_of}

abbrev pub three : BranchTable
three =
    branch_table_of
    (branches_of (0 ∷ 1 ∷ 1 ∷ []) (1 ∷ 2 ∷ 0 ∷ []))
    (values_of
    (lit 0x3ffe_6666_6666_6666 ∷ lit 0x3fe6_6666_6666_6666 ∷ lit 0x3ff1_9999_9999_999a ∷ [])
    (lit 0xc016_cccc_cccc_cccd ∷ lit 0xc002_6666_6666_6666 ∷ lit 0xc00a_6666_6666_6666 ∷ [])
    (lit 0x3f84_7ae1_47ae_147b ∷ lit 0x0000_0000_0000_0000 ∷ lit 0x0000_0000_0000_0000 ∷ [])
    (lit 0x3f94_7ae1_47ae_147b ∷ lit 0x3f86_872b_020c_49ba ∷ lit 0x0000_0000_0000_0000 ∷ [])
    (lit 0x3f9e_b851_eb85_1eb8 ∷ lit 0x0000_0000_0000_0000 ∷ lit 0x0000_0000_0000_0000 ∷ [])
    (lit 0x3fa4_7ae1_47ae_147b ∷ lit 0x3f8a_9fbe_76c8_b439 ∷ lit 0x0000_0000_0000_0000 ∷ [])
    (lit 0x3fef_0a3d_70a3_d70a ∷ lit 0x3ff0_cccc_cccc_cccd ∷ lit 0x3ff0_0000_0000_0000 ∷ [])
    (lit 0x3fb9_9999_9999_999a ∷ lit 0xbfd3_3333_3333_3333 ∷ lit 0x0000_0000_0000_0000 ∷ [])
    (lit 0x3ff0_0000_0000_0000 ∷ lit 0x3ff0_0000_0000_0000 ∷ lit 0x0000_0000_0000_0000 ∷ []))

pub list-of-three :
    ybus_of 3 three
    ≡ triplets_of
    (0 ∷ 1 ∷ 2 ∷ 0 ∷ 1 ∷ 1 ∷ 2 ∷ 1 ∷ 0 ∷ [])
    (0 ∷ 1 ∷ 2 ∷ 1 ∷ 0 ∷ 2 ∷ 1 ∷ 0 ∷ 1 ∷ [])
    (lit 0x4000_3d61_9856_699f ∷ lit 0x4004_84f5_1c1e_8eb6 ∷ lit 0x3fe6_6666_6666_6666 ∷ lit 0xc004_48f6_ea84_e43d ∷ lit 0xbff5_cc17_aa69_b295 ∷ lit 0x3f85_6108_ae55_eede ∷ lit 0xbff4_8c2b_497c_07af ∷ lit 0x8000_0000_0000_0000 ∷ lit 0x8000_0000_0000_0000 ∷ [])
    (lit 0xc018_25a7_e688_879c ∷ lit 0xc01e_f1db_ea8b_7584 ∷ lit 0xc002_4bc6_a7ef_9db2 ∷ lit 0x4016_9b03_ce04_a292 ∷ lit 0x4018_2b80_5191_f9bb ∷ lit 0x4002_5136_ccdd_2108 ∷ lit 0x3ffe_547e_67d1_5956 ∷ lit 0x0000_0000_0000_0000 ∷ lit 0x0000_0000_0000_0000 ∷ [])
unfolding ybus_of diagonal listed each y_ff y_ft y_tf y_tt sin_cos_of absolute add sub mul div neg lt is_nan of_int of_bits
list-of-three = refl

-- row by row, the tap first: a NaN tap in a row whose ends meet, below a row that passes; and ends that meet above a tap of zero
pub nan-tap : fault_of (branches_of (0 ∷ 1 ∷ []) (1 ∷ 1 ∷ [])) (one ∷ nan ∷ []) ≡ Some (Tap 1)
unfolding first_below fault_at lt of_bits
nan-tap = refl

pub ends_above : fault_of (branches_of (0 ∷ 2 ∷ 1 ∷ []) (1 ∷ 2 ∷ 0 ∷ [])) (one ∷ one ∷ nought ∷ []) ≡ Some (Ends 1)
unfolding first_below fault_at lt of_bits
ends_above = refl

pub all_pass : fault_of (branches_of (0 ∷ 1 ∷ []) (1 ∷ 2 ∷ [])) (one ∷ one ∷ []) ≡ None
unfolding first_below fault_at lt of_bits
all_pass = refl
