use Rattle.std.proofs.Common.{◌≡◌, ℕ, List, map, length, true, false, refl, sym, subst, arith}
use Rattle.std.proofs.lemmas.List.{length-map}
use Rattle.pb_verifier.specs.Limits.{IsName}
use Rattle.pb_code.proofs.ListElements.{each_more}
use Rattle.pb_verifier.proofs.LimitTests.{all_at, apart_more, are_names_from, read_mapped}
use Rattle.pb_verifier.proofs.limits.are_names.Goals as goal

pub returns-then-not-is_name : goal.returns-then-not-is_name
returns-then-not-is_name c =
    let read = read_mapped (λ name. name.items) c.args.names.now c.loop-k.k c.index-names-k.result c.loop-k-test.true c.index-names-k.is in (
      λ e. let wrong : false ≡ true = e in cc,
      λ names. c.if-not-is_name.ensures.name.1 (subst IsName (sym
          c.deref.ensures.value) (all_at IsName _ names.formed c.loop-k.k _ read)),
    )

pub loop-k-preserved : goal.loop-k-preserved
loop-k-preserved c =
    let read = read_mapped (λ name. name.items) c.args.names.now c.loop-k.k c.index-names-k.result c.loop-k-test.true c.index-names-k.is in
    let here : IsName c.index-names-k.result.items = subst IsName c.deref.ensures.value (c.if-not-is_name.ensures.name.0 refl) in
    record {
      formed = each_more _ c.loop-k.k _ (λ _ name. IsName name) read c.loop-k.invariant.formed here;
      apart = apart_more (map (λ name. name.items) c.args.names.now) (length c.args.names.now) c.loop-k.k
          c.loop-k.invariant.apart (c.if-not-is_new.ensures.0 refl);
    }

pub returns : goal.returns
returns c =
    let names : List (List ℕ) = map (λ name. name.items) c.args.names.now in
    let n : length names ≡ length c.args.names.now = length-map c.args.names.now (λ name. name.items) in (
      λ _. are_names_from names c.args.count c.loop-k.k (omega arith) (omega arith) c.loop-k.invariant.formed (λ i j u
          v w. c.loop-k.invariant.apart i j u v (omega arith)),
      λ _. refl,
    )
