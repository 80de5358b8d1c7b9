-- 02, Ask 5: "give for each branch the active and reactive power entering at each end: the end's voltage times the conjugate of its own current, from the same
-- four admittances, with the from-side product added before the to-side one. The loss is the sum of the two active figures, from end first."
pub mod Laws
use Rattle.std.specs.Prelude.{ℕ, ◌≤◌, min, List, length, replicate, Float}
use Rattle.std.specs.Float.{binary64}
use Rattle.std.specs.Float.Ieee.{add}
use Rattle.real.specs.Literals.{nought}
use Rattle.complex.specs.declared.Complex.{Complex}
use Rattle.complex.specs.Numbers.{sum_of, conjugate_of, product_of}
use Rattle.network.specs.Columns.{Kept}
use Rattle.network.specs.Network.{Branches}
use Rattle.network.specs.BranchTable.{BranchTable}
use Rattle.layout.specs.Table.{stores}
use Rattle.injections.specs.Injections.{voltage_at}
use Rattle.ybus.specs.declared.Admittance.{Admittance}
use Rattle.ybus.specs.Branch.{from_of, to_of, branch_at, admittance_of}
use Rattle.flows.specs.declared.Flow.{Flow}
use Rattle.flows.specs.declared.Flows.{Flows}
use Rattle.flows.specs.declared.FlowColumnsMut.{FlowColumnsMut}

-- ---- a branch

-- the current of an end that has the admittances y and z towards the from bus at v and the to bus at u
abbrev pub current_of : Complex → Complex → Complex → Complex → Complex
current_of y z v u = sum_of (product_of y v) (product_of z u)

-- the power entering at an end, of its voltage and its current
abbrev pub entering : Complex → Complex → Complex
entering v i = product_of v (conjugate_of i)

-- at the from end and at the to end of a branch, whose from bus is at v and to bus at u
abbrev pub from_end : Admittance → Complex → Complex → Complex
from_end y v u = entering v (current_of y.ff y.ft v u)

abbrev pub to_end : Admittance → Complex → Complex → Complex
to_end y v u = entering u (current_of y.tf y.tt v u)

-- "The loss is the sum of the two active figures, from end first"
unfoldable pub flow_of : Admittance → Complex → Complex → Flow
flow_of y v u =
    let f = from_end y v u in
    let t = to_end y v u in
    record { pf = f.re; qf = f.im; pt = t.re; qt = t.im; loss = add binary64 f.re t.re }

-- ---- all branches

-- the five columns
abbrev pub flows_of : List Float → List Float → List Float → List Float → List Float → Flows
flows_of pf qf pt qt loss = record { pf = pf; qf = qf; pt = pt; qt = qt; loss = loss }

-- those that lent columns hold, and that they are still the columns that were lent
abbrev pub flows_lent : FlowColumnsMut → Flows
flows_lent c = flows_of c.pf.now c.qf.now c.pt.now c.qt.now c.loss.now

pub record SameFlows (c d : FlowColumnsMut) : Type 0 where
  pub pf : Kept c.pf d.pf
  pub qf : Kept c.qf d.qf
  pub pt : Kept c.pt d.pt
  pub qt : Kept c.qt d.qt
  pub loss : Kept c.loss d.loss

-- columns of zeros for as many branches as a case may have
abbrev pub blank_flows : Flows
blank_flows =
    let x = replicate 64 nought in
    flows_of x x x x x

-- of branch e, whose admittances are y e, at the voltages that magnitudes and angles give
abbrev pub flow_by : Branches → (ℕ → Admittance) → List Float → List Float → ℕ → Flow
flow_by ends y vm va e = flow_of (y e) (voltage_at vm va (from_of ends e)) (voltage_at vm va (to_of ends e))

-- one place per branch in each column, and none past them
unfoldable pub with_flows_by : Branches → (ℕ → Admittance) → List Float → List Float → Flows → Flows
with_flows_by ends y vm va f =
    let m = length ends.from in
    let x : ℕ → Flow = flow_by ends y vm va in
    flows_of (stores (λ e. (x e).pf) m f.pf) (stores (λ e. (x e).qf) m f.qf) (stores (λ e. (x e).pt) m f.pt) (stores (λ e. (x e).qt) m f.qt)
    (stores (λ e. (x e).loss) m f.loss)

-- "from the same four admittances", a branch that is off like the others
abbrev pub with_flows : BranchTable → List Float → List Float → Flows → Flows
with_flows t vm va f = with_flows_by t.ends (λ e. admittance_of (branch_at t.values e)) vm va f

-- ---- the room

-- "an answer column too short": the fewest places that a column has
abbrev pub fewest_of : ℕ → ℕ → ℕ → ℕ → ℕ → ℕ
fewest_of pf qf pt qt loss = min (min (min pf qf) (min pt qt)) loss

abbrev pub flows_room : Flows → ℕ
flows_room f = fewest_of (length f.pf) (length f.qf) (length f.pt) (length f.qt) (length f.loss)

-- at least one place per branch
pub record OnePerBranch (m : ℕ) (f : Flows) : Type 0 where
  pub pf : m ≤ length f.pf
  pub qf : m ≤ length f.qf
  pub pt : m ≤ length f.pt
  pub qt : m ≤ length f.qt
  pub loss : m ≤ length f.loss
