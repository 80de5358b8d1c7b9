-- The places passed hold their branches' flows.
use Rattle.std.proofs.Common.{◌≡◌, length}
use Rattle.network.specs.Columns.{branches_in}
use Rattle.ybus.specs.Ybus.{admittance_at}
use Rattle.flows.specs.Flows.{flows_lent, flow_by, SameFlows}
use Rattle.flows.proofs.Columns.{Made}
use Rattle.flows.proofs.write_flows.Given as goal

abbrev pub invariant-loop-e : goal.invariant-loop-e
invariant-loop-e l = record {
  whole : l.e-end ≡ length l.ends.from.now;
  same : SameFlows l.initial.out l.out;
  made :
      Made (flow_by (branches_in l.ends) (admittance_at l.y) l.vm l.va)
      (flows_lent l.initial.out) (length l.ends.from.now) l.e
      (flows_lent l.out);
}
