-- `pf_ac::ac_pf_with_start` meets its contract: each part is worked out as the definition has it. Assumes nothing.
use native.Mathlib.Omega.{arith}
use lib.ListN.{length}
use lib.Ieee.{nan}
use Rattle.starts.specs.References.Laws.{references-slacks}
use Rattle.network.specs.Columns.{network_in}
use Rattle.pf_ac.specs.WithStart.Laws.{ac_pf-from-parts}
use Rattle.pf_ac.proofs.ac_pf_with_start.Goals as goal

-- ---- the needs

pub first_start-first-requires : goal.first_start-first-requires
first_start-first-requires c =
    let r = c.requires.0 in
    let b = r.buses in
    let t = c.args.t in (
      b.few,
      omega (arith, b.vm_set),
      omega (arith, b.vm_case),
      omega (arith, b.va_case),
      rw c.island_references-references.ensures
          (references-slacks (length t.buses.kind.now) t.slacks.bus.now t.slacks.angle.now t.branches.from.now t.branches.to.now b.few r.slack_bus),
    )

pub returns : goal.returns
returns c =
    ac_pf-from-parts _ (network_in c.args.t) _ _ c.default_kinds-kinds.ensures _ c.aggregate_q-limits.ensures _ c.island_references-references.ensures _ c.flat_start-flat.ensures _
    c.first_start-first.ensures _ (c.column-qg.ensures nan) _ (c.column-hold.ensures nan) _ c.search.ensures
