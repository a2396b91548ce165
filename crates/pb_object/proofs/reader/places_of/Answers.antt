use Rattle.std.proofs.Common.{◌≡◌, ◌++◌, ◌∷◌, [], map, length, arith, ap, sym, ◌∙◌, List}
use Rattle.std.proofs.lemmas.List.{map_push, length-map, length-append}
use Rattle.std.proofs.lemmas.List.Elements.{All-push}
use Rattle.pb_code.specs.Code.{Instr}
use Rattle.pb_object.specs.Lines.{many}
use Rattle.pb_object.specs.Reading.{place_at}
use Rattle.pb_object.specs.Rows.{side_by_side, place_view}
use Rattle.pb_code.specs.Bundles.{NamesBelow}
use Rattle.pb_code.specs.View.{instr_view}
use Rattle.pb_code.proofs.BundleTables.{views_kept, names_kept}
use Rattle.pb_object.proofs.Loops.{goes_on, ends, is_done}
use Rattle.pb_object.proofs.PairedLists.{side_push}
use Rattle.pb_object.proofs.reader.places_of.Goals as goal

pub returns-in-Err-clause-read : goal.returns-in-Err-clause-read
returns-in-Err-clause-read c =
    let made = side_by_side c.loop.lines.items (map (instr_view c.loop.bundles.items) c.loop.instrs.items) in
    let all = many (place_at c.args.format) [] c.args.count c.args.text.now in
    ends (place_at c.args.format) c.in-Err.fault made c.args.count c.loop.counter c.loop.rest.now all
    c.loop-test.true c.in-Err.ensures.place c.loop.invariant.read

pub loop-preserved : goal.loop-preserved
loop-preserved c =
    let bundles = c.place_at.new.bundles.items in
    let old = instr_view c.loop.bundles.items in
    let new = instr_view bundles in
    let lines = c.loop.lines.items in
    let instrs = c.loop.instrs.items in
    let instr = c.in-Ok.instr in
    let place = place_view bundles (c.in-Ok.line, instr) in
    let says = c.in-Ok.ensures in
    let line_in = c.in_ok-push-in-Ok.ensures.items in
    let instr_in = c.in_ok-push-in-Ok-2.ensures.items in
    let kept : map new instrs ≡ map old instrs =
    views_kept c.loop.bundles.items bundles instrs says.kept c.loop.invariant.names in
    let pushed : map new c.push-in-Ok.new.self.items ≡ map old instrs ++ new instr ∷ [] =
    rw instr_in (map_push new instrs instr ∙ ap (λ (l : List Instr). l ++ new instr ∷ []) kept) in
    let even : length lines ≡ length (map old instrs) =
    c.loop.invariant.even ∙ sym (length-map instrs old) in
    let both : side_by_side c.push.new.self.items (map new c.push-in-Ok.new.self.items)
    ≡ side_by_side lines (map old instrs) ++ place ∷ [] =
    rw (line_in, pushed) (side_push lines (map old instrs) c.in-Ok.line (new instr) even) in
    let few = c.loop.invariant.few in
    let all = many (place_at c.args.format) [] c.args.count c.args.text.now in
    record {
      read = rw both (goes_on (place_at c.args.format) (side_by_side lines (map old instrs)) c.args.count
          c.loop.counter c.loop.rest.now place c.in-Ok.after.now all
          c.loop-test.true says.place c.loop.invariant.read);
      even = rw (line_in, instr_in)
          (let e = c.loop.invariant.even in simp length-append (omega (arith, e)));
      names = rw instr_in (All-push (NamesBelow (length bundles)) instrs instr
          (names_kept c.loop.bundles.items bundles instrs says.kept c.loop.invariant.names) says.names);
      few = (let f = says.few in omega (arith, few, f));
    }

pub returns-clause-read : goal.returns-clause-read
returns-clause-read c =
    let made = side_by_side c.loop.lines.items (map (instr_view c.loop.bundles.items) c.loop.instrs.items) in
    let all = many (place_at c.args.format) [] c.args.count c.args.text.now in
    is_done (place_at c.args.format) made c.args.count c.loop.counter c.loop.rest.now all
    c.loop-test.false c.loop.invariant.read
