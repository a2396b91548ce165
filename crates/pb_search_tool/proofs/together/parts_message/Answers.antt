use Rattle.std.proofs.Common.{List, ℕ, map, sym, subst}
use Rattle.std.specs.Borrow.{Bor}
use Rattle.pb_command_io.specs.Parts.{AreParts}
use Rattle.pb_search_tool.proofs.MessageLemmas.{fault_together, texts_together}
use Rattle.pb_search_tool.proofs.together.parts_message.Goals as goal

pub returns-in-Ok : goal.returns-in-Ok
returns-in-Ok c =
    let given = map (λ (t : Bor (List ℕ)). t.now) in
    let parts : AreParts c.args.bytes.now (given c.deref.result.now) =
    subst (λ (texts : List (Bor (List ℕ))). AreParts c.args.bytes.now (given texts)) (sym c.deref.ensures.value) c.in_ok-texts.ensures in
    let read = c.in-Ok.ensures.read in
    texts_together (λ told. told.items) c.args.changes.now c.args.bytes.now (given c.deref.result.now) read.0 _ _ c.read_message.result parts read.1
    c.read_message.ensures

pub returns : goal.returns
returns c =
    let given = map (λ (t : Bor (List ℕ)). t.now) in
    let parts : AreParts c.args.bytes.now (given c.deref-in-Err.result.now) =
    subst (λ (texts : List (Bor (List ℕ))). AreParts c.args.bytes.now (given texts)) (sym c.deref-in-Err.ensures.value) c.in_ok-texts.ensures in
    fault_together (λ told. told.items) c.args.changes.now c.args.bytes.now (given c.deref-in-Err.result.now) c.refused_message.result parts c.refused_message.ensures
