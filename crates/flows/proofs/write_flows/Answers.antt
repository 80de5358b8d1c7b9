-- `flows::write_flows` meets its contract: the places passed hold their branches' flows.
use Rattle.std.proofs.Common.{◌<◌, length, refl, arith, length-set}
use Rattle.layout.specs.Table.Laws.{stored-all}
use Rattle.flows.specs.Flows.{with_flows_by}
use Rattle.flows.proofs.Columns.{made-none, made-next}
use Rattle.flows.proofs.write_flows.Goals as goal

pub loop-e-init : goal.loop-e-init
loop-e-init c = record { whole = refl; same = record { pf = (refl, refl); qf = (refl, refl); pt = (refl, refl); qt = (refl, refl); loss = (refl, refl) }; made = made-none }

-- the ends of a branch have voltages
pub voltage-v_from-requires : goal.voltage-v_from-requires
voltage-v_from-requires c =
    let h : c.loop-e.e < length c.args.ends.from.now = omega arith in
    let b = c.requires.below in
    (b.0 _ h, b.1 _ h)

pub voltage-v_to-requires : goal.voltage-v_to-requires
voltage-v_to-requires c =
    let h : c.loop-e.e < length c.args.ends.to.now = omega (arith, c.requires.sized_branches.0.to) in
    let b = c.requires.below in
    (b.2 _ h, b.3 _ h)

-- a turn's branch has a place in every column
pub bounds-ends-e-in-loop-e : goal.bounds-ends-e-in-loop-e
bounds-ends-e-in-loop-e c = omega (arith, c.requires.sized_branches.0.to)

pub bounds-y-e : goal.bounds-y-e
bounds-y-e c = omega (arith, c.requires.sized_branches.0.few)

pub bounds-out-e : goal.bounds-out-e
bounds-out-e c = omega (arith, c.loop-e.invariant.made.pf.0, c.requires.sized_branches.1.pf)

pub bounds-out-e-in-loop-e : goal.bounds-out-e-in-loop-e
bounds-out-e-in-loop-e c = omega (arith, c.loop-e.invariant.made.qf.0, c.requires.sized_branches.1.qf)

pub bounds-out-e-in-loop-e-2 : goal.bounds-out-e-in-loop-e-2
bounds-out-e-in-loop-e-2 c = omega (arith, c.loop-e.invariant.made.pt.0, c.requires.sized_branches.1.pt)

pub bounds-out-e-in-loop-e-3 : goal.bounds-out-e-in-loop-e-3
bounds-out-e-in-loop-e-3 c = omega (arith, c.loop-e.invariant.made.qt.0, c.requires.sized_branches.1.qt)

pub bounds-out-e-in-loop-e-4 : goal.bounds-out-e-in-loop-e-4
bounds-out-e-in-loop-e-4 c = omega (arith, c.loop-e.invariant.made.loss.0, c.requires.sized_branches.1.loss)

pub loop-e-preserved : goal.loop-e-preserved
loop-e-preserved c =
    let l = c.loop-e in
    let h : l.e < length c.args.ends.from.now = omega arith in
    let f = rw (c.voltage-v_from.ensures, c.voltage-v_to.ensures) at c.branch_flow-f.ensures in
    let s = l.invariant.same in
    record {
      whole = l.invariant.whole;
      same =
          record {
            pf = (s.pf.0, simp length-set s.pf.1);
            qf = (s.qf.0, simp length-set s.qf.1);
            pt = (s.pt.0, simp length-set s.pt.1);
            qt = (s.qt.0, simp length-set s.qt.1);
            loss = (s.loss.0, simp length-set s.loss.1);
          };
      made = made-next l.invariant.made h f;
    }

pub returns : goal.returns
unfolding with_flows_by
returns c =
    let m = c.loop-e.invariant.made in
    record {
      flows =
          rw (
            stored-all m.pf.1 (omega arith),
            stored-all m.qf.1 (omega arith),
            stored-all m.pt.1 (omega arith),
            stored-all m.qt.1 (omega arith),
            stored-all m.loss.1 (omega arith),
          );
      same_columns = c.loop-e.invariant.same;
    }
