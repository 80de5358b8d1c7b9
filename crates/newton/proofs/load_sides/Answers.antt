-- `newton::load_sides` meets its contract. Assumes nothing.
use Rattle.std.proofs.Common.{◌≡◌, ◌+◌, ◌-◌, arith}
use Rattle.newton.specs.Newton.Laws.{sides-loaded}
use Rattle.newton.proofs.load_sides.Goals as goal

pub returns : goal.returns
returns c =
    let a = c.args in
    let e : 4096 + a.dim - 4096 ≡ a.dim = omega arith in
    rw (c.copy_from_slice.ensures.after, e) (sides-loaded a.dim a.r a.w.now (omega arith) (omega arith) (omega arith))
