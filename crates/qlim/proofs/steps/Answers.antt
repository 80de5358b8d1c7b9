-- `qlim::steps` meets its contract: a good study makes a good problem. Assumes nothing.
use native.Mathlib.Omega.{arith}
use Rattle.qlim.specs.Rounds.Laws.{good-problem}
use Rattle.qlim.proofs.steps.Goals as goal

pub newton-requires : goal.newton-requires
newton-requires c = (good-problem _ c.requires.0 _ _ c.with_kinds-layout.ensures _, omega (arith, c.requires.1))
