use Rattle.std.proofs.Common.{◌≡◌, ◌∙◌, ◌++◌, ◌∷◌, [], sym, ap, map, take, Bool, cond, List, Option, Some, None}
use Rattle.std.proofs.lemmas.List.{map_push, take_all}
use Rattle.pb_code.specs.Names.{Word}
use Rattle.pb_object.proofs.WordTurns.{from_here, from_end, up_to_here, not_new, new_one, none_new}
use Rattle.pb_object.proofs.line_reader.distinct.Goals as goal

abbrev given : List Word → Bool → Option (List Word)
given words b = cond b (Some words) None

pub returns-then-has_name : goal.returns-then-has_name
returns-then-has_name c =
    let old = sym c.has_name.ensures ∙ c.if-has_name.true in
    let no = c.loop-word.invariant.same
    ∙ not_new _ _ _ _ (from_here (λ w. w.now) c.args.words.now c.loop-word.word-index _ c.loop-word-test.true) (rw c.deref.ensures.value at old) in
    sym (ap (given (map (λ w. w.now) c.args.words.now)) no)

pub loop-word-preserved : goal.loop-word-preserved
loop-word-preserved c =
    let new = sym c.has_name.ensures ∙ c.if-has_name.false in
    let next = c.loop-word.invariant.same
    ∙ new_one _ _ _ _ (from_here (λ w. w.now) c.args.words.now c.loop-word.word-index _ c.loop-word-test.true) (rw c.deref.ensures.value at new) in
    let word = c.in_ok-copy_of.ensures in
    let pushed : map (λ n. n.items) c.push.new.self.items ≡ map (λ n. n.items) c.loop-word.names.items ++ c.in_ok-copy_of.field-0.items ∷ [] =
    rw c.in_ok-push.ensures.items (map_push _ c.loop-word.names.items c.in_ok-copy_of.field-0) in
    record {
      same = rw (pushed, word) next;
      copied =
          pushed
          ∙ ap (λ (l : List Word). l ++ c.in_ok-copy_of.field-0.items ∷ []) c.loop-word.invariant.copied
          ∙ ap (λ (w : Word). map (λ w. w.now) (take c.loop-word.word-index c.args.words.now) ++ w ∷ []) word
          ∙ sym (up_to_here (λ w. w.now) c.args.words.now c.loop-word.word-index _ c.loop-word-test.true);
    }

pub returns : goal.returns
returns c =
    let yes = c.loop-word.invariant.same ∙ none_new _ _ (from_end (λ w. w.now) c.args.words.now c.loop-word.word-index c.loop-word-test.false) in
    let all : map (λ n. n.items) c.loop-word.names.items ≡ map (λ w. w.now) c.args.words.now =
    c.loop-word.invariant.copied ∙ ap (map (λ w. w.now)) (take_all c.loop-word.word-index c.args.words.now c.loop-word-test.false) in
    ap (λ (l : List Word). Some l) all ∙ sym (ap (given (map (λ w. w.now) c.args.words.now)) yes)
