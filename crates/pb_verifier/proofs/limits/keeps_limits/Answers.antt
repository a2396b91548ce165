use Rattle.std.proofs.Common.{◌≡◌, ℕ, map, length, true, false, refl, ap, ◌∙◌, subst, arith}
use Rattle.std.proofs.lemmas.List.{length-map}
use Rattle.pb_base.specs.Tables.{HasWidth}
use Rattle.pb_code.specs.View.{process_view}
use Rattle.pb_verifier.specs.Limits.{AreNames, HasSmallPushes, IsSmallProcess}
use Rattle.pb_code.proofs.ListElements.{each_more, each_all}
use Rattle.pb_base.proofs.Lists.{view_read}
use Rattle.pb_verifier.proofs.limits.keeps_limits.Goals as goal

pub returns-then-not-is_small_process : goal.returns-then-not-is_small_process
returns-then-not-is_small_process c =
    let read = view_read process_view c.args.code.now.processes.items c.deref-process-items.result.now
    c.loop-process.process-index c.process-item.result c.deref-process-items.ensures.value
    c.loop-process-test.true c.process-item.is in
    record {
      limits = (
        λ e. let wrong : false ≡ true = e in cc,
        λ limits. c.if-not-is_small_process.ensures.limits.1
            (limits.each c.loop-process.process-index _ read),
      );
      pushes = λ e. let wrong : false ≡ true = e in absurd cc;
    }

pub loop-process-preserved : goal.loop-process-preserved
loop-process-preserved c =
    let read = view_read process_view c.args.code.now.processes.items c.deref-process-items.result.now
    c.loop-process.process-index c.process-item.result c.deref-process-items.ensures.value
    c.loop-process-test.true c.process-item.is in
    let processes = map process_view c.args.code.now.processes.items in
    record {
      small = each_more processes c.loop-process.process-index _ (λ _ process. IsSmallProcess process) read
          c.loop-process.invariant.small (c.if-not-is_small_process.ensures.limits.0 refl);
      pushes = each_more processes c.loop-process.process-index _ (λ _ process. HasSmallPushes process) read
          c.loop-process.invariant.pushes (c.if-not-is_small_process.ensures.pushes refl);
    }

pub returns : goal.returns
returns c =
    let n : length (map process_view c.args.code.now.processes.items) ≡ length c.args.code.now.processes.items =
    length-map c.args.code.now.processes.items process_view in
    let m : length c.deref-process-items.result.now ≡ length c.args.code.now.processes.items = ap length c.deref-process-items.ensures.value in
    let count : c.len-processes.result ≡ length (map process_view c.args.code.now.processes.items) = let l = c.len-processes.ensures in omega arith in
    let kinds : c.resources-resources.result ≡ length c.args.code.now.capital = c.resources-resources.ensures.number in
    let claims = c.if-not-are_small_claims.ensures.0 refl in
    let names = c.args.code.now.names in
    record {
      limits = (
        λ _. record {
          some_processes = (omega arith, omega arith);
          few_resources = omega arith;
          capital = c.resources-resources.ensures.small;
          process_names =
              subst (λ (n : ℕ). AreNames n (map (λ name. name.items) names.processes.items)) count
              (subst (λ xs. AreNames c.len-processes.result (map (λ name. name.items) xs)) c.deref.ensures.value (c.if-not-are_names.ensures.0 refl));
          resource_names =
              subst (λ (n : ℕ). AreNames n (map (λ name. name.items) names.resources.items)) kinds
              (subst (λ xs. AreNames c.resources-resources.result (map (λ name. name.items) xs)) c.deref-2.ensures.value (c.if-not-are_names-2.ensures.0 refl));
          rows = claims.0 ∙ count;
          width = subst (λ (n : ℕ). HasWidth n c.args.code.now.claims) kinds claims.1;
          claims = λ p r u v. claims.2 p r (omega arith) (omega arith);
          each = each_all (map process_view c.args.code.now.processes.items) c.loop-process.process-index (λ _
              process. IsSmallProcess process) (omega arith) c.loop-process.invariant.small;
        },
        λ _. refl,
      );
      pushes = λ _. each_all (map process_view c.args.code.now.processes.items) c.loop-process.process-index (λ _
          process. HasSmallPushes process) (omega arith) c.loop-process.invariant.pushes;
    }
