use Rattle.std.proofs.Common.{◌≡◌, ◌+◌, ◌++◌, ◌∷◌, ℕ, List, [], length, take, get_or, append_assoc, refl, sym, subst}
use Rattle.std.proofs.Common.{ap, ◌∙◌, slice_get, Some, rules}
use Rattle.std.proofs.lemmas.List.{take_more}
use Rattle.std.proofs.lemmas.Option.{get_or_from_slice_get, slice_get-get_or, slice_get_within}
use Rattle.pb_base.specs.Lines.{names_view}
use Rattle.pb_history.specs.declared.counted.CountedPick.{CountedPick}
use Rattle.pb_picks.specs.PickLines.{pick_line, pick_lines}
use Rattle.pb_picks.proofs.PickSpellings.{one_line_written}
use Rattle.pb_picks.proofs.write.put_picks.Goals as goal

-- the lines of the picks up to one more
lines_more : (names : List (List ℕ)) (picks : List CountedPick) (i : ℕ) (c : CountedPick) → slice_get picks i ≡ Some c → (before text now : List ℕ)
    → text ≡ before ++ pick_lines names (take i picks) → now ≡ text ++ (pick_line names c ++ (10 ∷ []))
    → now ≡ before ++ pick_lines names (take (i + 1) picks)
lines_more names picks i c here before text now so_far one =
    let more : take (i + 1) picks ≡ take i picks ++ c ∷ [] =
    take_more picks i c (slice_get_within picks i c here) ∙ ap (λ (d : CountedPick). take i picks ++ d ∷ []) (get_or_from_slice_get picks i c c here) in
    one ∙ (ap (λ (t : List ℕ). t ++ (pick_line names c ++ (10 ∷ []))) so_far
    ∙ (append_assoc before (pick_lines names (take i picks)) (pick_line names c ++ (10 ∷ []))
    ∙ ap (λ (t : List ℕ). before ++ t)
    (sym (one_line_written names (take i picks) c) ∙ ap (pick_lines names) (sym more))))

pub loop-i-preserved : goal.loop-i-preserved
loop-i-preserved c =
    let picks = c.args.picks.now in
    let pick = get_or picks c.loop-i.i (record { pick = record { process = 0; arm = 0 }; count = 0 }) in
    lines_more (names_view c.args.names.now).processes picks c.loop-i.i pick (slice_get-get_or picks c.loop-i.i _ c.loop-i-test.true)
    c.args.text.now.items c.loop-i.text.items c.put_pick.new.text.items c.loop-i.invariant c.in_ok-put_pick.ensures.ok

-- what begins with a list and more begins with the list
begins : (before more now : List ℕ) → take (length (before ++ more)) now ≡ before ++ more → take (length before) now ≡ before
begins [] more now h = refl
begins (x ∷ before) more [] h = cc
begins (x ∷ before) more (y ∷ now) h =
    let rest : take (length (before ++ more)) now ≡ before ++ more = cc in
    let first : y ≡ x = cc in
    ap (λ (z : ℕ). z ∷ take (length before) now) first ∙ ap (λ (zs : List ℕ). x ∷ zs) (begins before more now rest)

pub returns-in_err-put_pick-clause-err : goal.returns-in_err-put_pick-clause-err
returns-in_err-put_pick-clause-err c =
    let before : take (length c.args.text.now.items) c.put_pick.new.text.items ≡ c.args.text.now.items =
    begins c.args.text.now.items _ c.put_pick.new.text.items
    (subst (λ (t : List ℕ). take (length t) c.put_pick.new.text.items ≡ t) c.loop-i.invariant c.in_err-put_pick.ensures.err) in
    search (rules, before)
