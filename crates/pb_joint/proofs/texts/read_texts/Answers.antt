use Rattle.std.proofs.Common.{Vec, Global, ◌∙◌, ℕ, List, [], ◌∷◌, ◌++◌, ap, length, map, subst, take, arith}
use Rattle.std.specs.Borrow.{Bor}
use Rattle.std.specs.Prelude.{nat_lt, option_map}
use Rattle.std.proofs.lemmas.List.{length-map, take_all}
use Rattle.std.proofs.lemmas.Slice.Zip.{AllZip-long}
use Rattle.pb_names.specs.View.{resolved_view}
use Rattle.pb_tree.specs.View.{program_view}
use Rattle.pb_joint.specs.View.{full_name}
use Rattle.pb_joint.specs.declared.texts.FullName.{FullName}
use Rattle.pb_joint.proofs.TextLemmas.{as_many, first_fault, names_of_all, next_read, nothing_yet}
use Rattle.pb_joint.specs.Texts.{AreSoFar, IsProgramText}
use Rattle.pb_joint.proofs.texts.read_texts.Goals as goal

pub loop-index-init : goal.loop-index-init
loop-index-init c = (
  [],
  nothing_yet (nat_lt 1 (length c.args.texts.now)) (program_view c.new-reading.result.whole) c.new-reading.result.program resolved_view
      c.new-reading.result.names.items full_name c.new-reading.ensures.whole c.new-reading.ensures.program
      c.new-reading.ensures.names,
)

pub add-requires : goal.add-requires
add-requires c =
    let all = map (λ (t : Bor (List ℕ)). t.now) c.args.texts.now in
    let so_far = c.loop-index.invariant.1 in
    let long = length-map c.args.texts.now (λ (t : Bor (List ℕ)). t.now) in
    let test = c.loop-index-test.true in
    let many = as_many all c.loop-index.index c.loop-index.invariant.0 so_far.each (omega (arith, long, test)) in
    (take c.loop-index.index all, c.loop-index.invariant.0, so_far, omega (arith, many))

pub returns-in-Err-clause-refused : goal.returns-in-Err-clause-refused
returns-in-Err-clause-refused c =
    let all = map (λ (t : Bor (List ℕ)). t.now) c.args.texts.now in
    let so_far = c.loop-index.invariant.1 in
    first_fault (nat_lt 1 (length c.args.texts.now)) all c.loop-index.index c.loop-index.invariant.0 (program_view c.loop-index.reading.whole)
    (option_map resolved_view c.loop-index.reading.program) (map full_name c.loop-index.reading.names.items)
    c.text_at.result.now c.in-Err.fault so_far c.text_at.ensures
    (c.in-Err.ensures.fault (take c.loop-index.index all) c.loop-index.invariant.0 so_far)

pub loop-index-preserved : goal.loop-index-preserved
loop-index-preserved c =
    let all = map (λ (t : Bor (List ℕ)). t.now) c.args.texts.now in
    let so_far = c.loop-index.invariant.1 in
    let long = length-map c.args.texts.now (λ (t : Bor (List ℕ)). t.now) in
    let test = c.loop-index-test.true in
    let many = as_many all c.loop-index.index c.loop-index.invariant.0 so_far.each (omega (arith, long, test)) in
    let more = c.in_default.ensures.added (take c.loop-index.index all) c.loop-index.invariant.0 so_far (omega (arith, many)) in (
      c.loop-index.invariant.0 ++ more.0 ∷ [],
      next_read (nat_lt 1 (length c.args.texts.now)) all c.loop-index.index c.text_at.result.now (c.loop-index.invariant.0 ++ more.0 ∷ [])
          (program_view c.add.new.self.whole) (option_map resolved_view c.add.new.self.program)
          (map full_name c.add.new.self.names.items) c.text_at.ensures more.1,
    )

pub returns-in-Ok-clause-read : goal.returns-in-Ok-clause-read
returns-in-Ok-clause-read c =
    let all = map (λ (t : Bor (List ℕ)). t.now) c.args.texts.now in
    let several = nat_lt 1 (length c.args.texts.now) in
    let trees = c.loop-index.invariant.0 in
    let names = map full_name c.loop-index.reading.names.items in
    let long = length-map c.args.texts.now (λ (t : Bor (List ℕ)). t.now) in
    let past = c.loop-index-test.false in
    let so_far = subst (λ (ts : List (List ℕ)). AreSoFar several ts trees (program_view c.loop-index.reading.whole)
    (option_map resolved_view c.loop-index.reading.program) names)
    (take_all c.loop-index.index all (omega (arith, long, past))) c.loop-index.invariant.1 in
    let each = AllZip-long IsProgramText all trees so_far.each in (
      trees,
      c.in-Ok.ensures.read all trees several so_far,
      ap (λ (v : Vec FullName Global). map full_name v.items) c.in-Ok.ensures.names
          ∙ names_of_all c.args.texts.now trees names (omega (arith, each, long)) so_far.named,
    )

pub returns-in-Ok-clause-named : goal.returns-in-Ok-clause-named
returns-in-Ok-clause-named c = c.in-Ok.ensures.named
