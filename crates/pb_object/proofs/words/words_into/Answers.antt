use Rattle.std.proofs.Common.{◌≡◌, get_or, map, arith, eqb, false, rules, tests}
use Rattle.std.proofs.lemmas.List.{map_push}
use Rattle.pb_object.proofs.LineWords.{turn_byte, turn_space, turn_feed, turn_end}
use Rattle.pb_object.proofs.words.words_into.Goals as goal
use Rattle.pb_object.proofs.words.words_into.Goals.{in-32+in_ok-push-in-32, in_default}

pub returns : goal.returns
returns c =
    turn_end c.args.text.now (map (λ w. w.now) c.loop-end.words.items) c.loop-end.start c.loop-end.end
    c.loop-end-test.false c.loop-end.invariant.read

pub returns-in-10 : goal.returns-in-10
returns-in-10 c =
    let words = map (λ w. w.now) c.loop-end.words.items in
    let so_far = c.loop-end.invariant.read in
    rw c.in_ok-push-in-10.ensures.items (rw (map_push (λ w. w.now) c.loop-end.words.items _)
    (turn_feed c.args.text.now words c.loop-end.start c.loop-end.end _
    c.loop-end-test.true c.in-10.is so_far))

pub loop-end-preserved : goal.loop-end-preserved
loop-end-preserved c =
    let text = c.args.text.now in
    let i = c.loop-end.end in
    let words = map (λ w. w.now) c.loop-end.words.items in
    let so_far = c.loop-end.invariant.read in
    let start = c.loop-end.invariant.start in
    elim c.match-text-end.branch [
      | in-32+in_ok-push-in-32 w ↦
          rw (w.words-is, w.start-is, w.in_ok-push-in-32.ensures.items) (record {
            read = rw (map_push (λ w. w.now) c.loop-end.words.items _)
                (turn_space text words c.loop-end.start i _ c.loop-end-test.true w.in-32.is so_far);
            start = omega arith;
          })
      | in_default w ↦
          let feed : eqb (get_or text i 0) 10 ≡ false = search (rules, tests) in
          let space : eqb (get_or text i 0) 32 ≡ false = search (rules, tests) in
          rw (w.words-is, w.start-is) (record {
            read = turn_byte text words c.loop-end.start i 0 start c.loop-end-test.true feed space so_far;
            start = omega (arith, start);
          })
    ]
