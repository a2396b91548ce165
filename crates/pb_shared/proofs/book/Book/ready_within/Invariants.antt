use Rattle.std.proofs.Common.{◌≤◌, ◌<◌}
use Rattle.pb_base.specs.declared.pick.Pick.{Pick}
use Rattle.pb_shared.specs.Ledgers.{IsReady}
use Rattle.pb_shared.proofs.book.Book.ready_within.Given as goal

abbrev pub invariant-loop-process : goal.invariant-loop-process
invariant-loop-process g l = (pick : Pick) → l.fn.from ≤ pick.process → pick.process < l.process → IsReady g.C.CodeBrand.code.code l.self pick → ⊥
