-- Links of one arm, by what it asks for.
use Rattle.std.proofs.Common.{◌≡◌, ℕ, ◌<◌, List, Option, Some, None, sym, ap, ◌∙◌, subst}
use Rattle.std.specs.Prelude.{IfSome, IfNone}
use Rattle.pb_base.specs.Banker.{BankerState, cash}
use Rattle.pb_base.specs.Bundle.{amount_in}
use Rattle.pb_base.specs.Steppers.{Bundle, State}
use Rattle.pb_base.specs.declared.pick.Pick.{Pick}
use Rattle.pb_code.specs.Code.{Take, CodeProcess}
use Rattle.pb_code.specs.Whole.{Code}
use Rattle.pb_machine.specs.Turns.{StandsIn}
use Rattle.pb_circles.specs.Links.{IsHolder, IsLinkOf, LinksTo, bank_at}
use Rattle.pb_circles.specs.declared.link.Link.{Link}
use Rattle.pb_circles.proofs.Requests.{asks_once}

abbrev arm_at : ℕ → ℕ → Pick
arm_at p a = record { process = p; arm = a }

module _ (code : Code) (s : State CodeProcess) (among : List ℕ) (p arm : ℕ) (bundle : Bundle)
    (asks : StandsIn code s (record { process = p; arm = arm }) (Take bundle)) where
  made : (link : Link) → IsLinkOf (bank_at code s) bundle among p arm link → LinksTo code s among p link
  made link is =
      let same : arm_at p arm ≡ arm_at link.process link.arm =
      ap (λ (n : ℕ). arm_at n arm) is.process_is ∙ ap (λ (n : ℕ). arm_at link.process n) is.arm_is in
      record {
        links = record {
          lacks = record { bundle = bundle; asks = subst (λ (a : Pick). StandsIn code s a (Take bundle)) same asks; over = is.over };
          other = λ e. is.holder.other (e ∙ sym is.process_is);
          holds = is.holder.holds;
        };
        process_is = sym is.process_is;
        member = is.holder.member;
      }

  pub links_made : (o : Option Link) → IfSome o (IsLinkOf (bank_at code s) bundle among p arm) → IfSome o (LinksTo code s among p)
  links_made None h = h
  links_made (Some link) h = made link h

  pub none_made : ((r holder : ℕ) → cash (bank_at code s) r < amount_in bundle r → IsHolder (bank_at code s) among p r holder → ⊥)
      → (link : Link) → link.arm ≡ arm → LinksTo code s among p link → ⊥
  none_made none link at is =
      let same : arm_at link.process link.arm ≡ arm_at p arm =
      ap (λ (n : ℕ). arm_at n link.arm) is.process_is ∙ ap (λ (n : ℕ). arm_at p n) at in
      let lacks = is.links.lacks in
      let asked = subst (λ (a : Pick). StandsIn code s a (Take lacks.bundle)) same lacks.asks in
      let one = asks_once code s (record { process = p; arm = arm }) lacks.bundle bundle asked asks in
      none link.resource link.holder (subst (λ (b : Bundle). cash (bank_at code s) link.resource < amount_in b link.resource) one lacks.over)
      (record { other = λ e. is.links.other (e ∙ sym is.process_is); holds = is.links.holds; member = is.member })

  pub none_in : (o : Option Link) (bank : BankerState) → bank ≡ bank_at code s
      → IfNone o ((r holder : ℕ) → cash bank r < amount_in bundle r → IsHolder bank among p r holder → ⊥)
      → IfNone o ((link : Link) → link.arm ≡ arm → LinksTo code s among p link → ⊥)
  none_in None bank same h =
      none_made (subst (λ (b : BankerState). (r holder : ℕ) → cash b r < amount_in bundle r → IsHolder b among p r holder → ⊥) same h)
  none_in (Some link) bank same h = h

-- an arm that is not at a request lacks nothing
pub not_asking : (code : Code) (s : State CodeProcess) (among : List ℕ) (p arm : ℕ)
    → ((bundle : Bundle) → StandsIn code s (record { process = p; arm = arm }) (Take bundle) → ⊥)
    → (link : Link) → link.arm ≡ arm → LinksTo code s among p link → ⊥
not_asking code s among p arm none link at is =
    let same : arm_at link.process link.arm ≡ arm_at p arm =
    ap (λ (n : ℕ). arm_at n link.arm) is.process_is ∙ ap (λ (n : ℕ). arm_at p n) at in
    let lacks = is.links.lacks in
    none lacks.bundle (subst (λ (a : Pick). StandsIn code s a (Take lacks.bundle)) same lacks.asks)
