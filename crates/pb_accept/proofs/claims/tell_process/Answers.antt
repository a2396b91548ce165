use Rattle.std.proofs.Common.{◌≡◌, ◌<◌, ◌≤◌, ◌∙◌, ◌∷◌, [], length, map, get_or, refl, sym, subst, arith}
use Rattle.std.proofs.lemmas.List.{get_or_default, length-map}
use Rattle.pb_base.specs.Banker.{row_of}
use Rattle.pb_command_io.proofs.PageLemmas.{OnErr-of}
use Rattle.pb_names.specs.declared.resolved.Resource.{Resource}
use Rattle.pb_accept.specs.Sayings.{Claim}
use Rattle.pb_accept.proofs.ClaimLemmas.{pair_told, pair_broken, pairs_told, view_at}
use Rattle.pb_voice.proofs.TellingLemmas.{breaking_at}
use Rattle.pb_voice.specs.Held.{at}
use Rattle.pb_accept.proofs.claims.tell_process.Goals as goal

pub get-requires-clause-resource : goal.get-requires-clause-resource
get-requires-clause-resource g c =
    let some = c.requires.process in
    let w = c.requires.width 0 (omega (arith, some)) in
    let t = c.loop-r-test.true in
    omega (arith, w, t)

pub loop-r-init : goal.loop-r-init
loop-r-init g c = refl

pub loop-r-preserved : goal.loop-r-preserved
loop-r-preserved g c =
    let row = row_of c.args.claims.now c.args.p in
    let names = map (λ (q : Resource _). q.name.items) c.args.resources.now in
    let r = c.loop-r.r in
    let resource = c.index-resources-r.result in
    let within : r < length c.args.resources.now = c.loop-r-test.true in
    let in_row : r < length row = (let w = c.requires.width c.args.p c.requires.process in omega (arith, w, within)) in
    let in_names : r < length names =
    (let n = length-map c.args.resources.now (λ (q : Resource _). q.name.items) in omega (arith, n, within))
    in
    let amount : get_or row r c.get.result ≡ c.get.result = get_or_default row r c.get.result 0 in_row ∙ sym c.get.ensures in
    let named = view_at (λ (q : Resource _). q.name.items) c.args.resources.now r resource within c.index-resources-r.is in
    pair_told g.T.Teller.tells g.T.Teller.breaks (λ claim. Claim c.args.name.now claim.0 claim.1 ∷ []) row names r
    c.get.result resource.name.items in_row in_names amount named (at g.O.Output.written g.O.Output.failures c.args.teller.now c.args.output.now) (at g.O.Output.written g.O.Output.failures c.loop-r.teller c.loop-r.output) (at g.O.Output.written g.O.Output.failures c.tell.new.self c.tell.new.output)
    c.loop-r.invariant (
      (at g.O.Output.written g.O.Output.failures c.tell.new.self c.tell.new.output),
      subst (λ (q : Resource _). g.T.Teller.tells (at g.O.Output.written g.O.Output.failures c.loop-r.teller c.loop-r.output) (Claim c.args.name.now c.get.result q.name.items) (at g.O.Output.written g.O.Output.failures c.tell.new.self c.tell.new.output))
          (sym c.index-resources-r.is) (rw c.deref.ensures.value at c.in_ok-tell.ensures.told),
      refl,
    )

pub returns-in_err-tell-clause-broken : goal.returns-in_err-tell-clause-broken
returns-in_err-tell-clause-broken g c =
    let row = row_of c.args.claims.now c.args.p in
    let names = map (λ (q : Resource _). q.name.items) c.args.resources.now in
    let r = c.loop-r.r in
    let resource = c.index-resources-r.result in
    let within : r < length c.args.resources.now = c.loop-r-test.true in
    let in_row : r < length row = (let w = c.requires.width c.args.p c.requires.process in omega (arith, w, within)) in
    let in_names : r < length names =
    (let n = length-map c.args.resources.now (λ (q : Resource _). q.name.items) in omega (arith, n, within))
    in
    let amount : get_or row r c.get.result ≡ c.get.result = get_or_default row r c.get.result 0 in_row ∙ sym c.get.ensures in
    let named = view_at (λ (q : Resource _). q.name.items) c.args.resources.now r resource within c.index-resources-r.is in
    OnErr-of c.from_residual.result
    (pair_broken g.T.Teller.tells g.T.Teller.breaks (λ claim. Claim c.args.name.now claim.0 claim.1 ∷ []) row names r
    c.get.result resource.name.items in_row in_names amount named (at g.O.Output.written g.O.Output.failures c.args.teller.now c.args.output.now) (at g.O.Output.written g.O.Output.failures c.loop-r.teller c.loop-r.output) (at g.O.Output.written g.O.Output.failures c.tell.new.self c.tell.new.output)
    c.loop-r.invariant (breaking_at g.T.Teller.tells g.T.Teller.breaks _ _ _
    (subst (λ (q : Resource _). g.T.Teller.breaks (at g.O.Output.written g.O.Output.failures c.loop-r.teller c.loop-r.output) (Claim c.args.name.now c.get.result q.name.items) (at g.O.Output.written g.O.Output.failures c.tell.new.self c.tell.new.output))
    (sym c.index-resources-r.is) (rw c.deref.ensures.value at c.in_err-tell.ensures.broken))))

pub returns-clause-told : goal.returns-clause-told
returns-clause-told g c =
    let names = map (λ (q : Resource _). q.name.items) c.args.resources.now in
    let end : length names ≤ c.loop-r.r =
    (
    let n = length-map c.args.resources.now (λ (q : Resource _). q.name.items) in
    let past = c.loop-r-test.false in
    omega (arith, n, past)
    )
    in
    pairs_told g.T.Teller.tells (λ claim. Claim c.args.name.now claim.0 claim.1 ∷ []) (row_of c.args.claims.now c.args.p)
    names c.loop-r.r (at g.O.Output.written g.O.Output.failures c.args.teller.now c.args.output.now) (at g.O.Output.written g.O.Output.failures c.loop-r.teller c.loop-r.output) end c.loop-r.invariant
