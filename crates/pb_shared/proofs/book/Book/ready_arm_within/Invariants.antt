use Rattle.std.proofs.Common.{◌≡◌, ◌≤◌, ◌<◌}
use Rattle.pb_base.specs.declared.pick.Pick.{Pick}
use Rattle.pb_shared.specs.Ledgers.{IsReady}
use Rattle.pb_shared.proofs.book.Book.ready_arm_within.Given as goal

abbrev pub invariant-loop-arm : goal.invariant-loop-arm
invariant-loop-arm g l = (pick : Pick) → pick.process ≡ l.process → l.fn.from ≤ pick.arm → pick.arm < l.arm → IsReady g.C.CodeBrand.code.code l.self pick → ⊥
