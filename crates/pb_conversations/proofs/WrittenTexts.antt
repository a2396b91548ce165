-- Texts that are written one after another.
use Rattle.std.proofs.Common.{◌≡◌, ◌∙◌, ℕ, List, [], ◌++◌, Option, Some, None, IfSome, refl, sym, ap, subst, append-nil, append_assoc}
use Rattle.std.proofs.lemmas.List.Concat.{flat_map-append}
use Rattle.serde_json.specs.Data.{Data}
use Rattle.pb_base.specs.Device.{appended, AddsPrefix}
use Rattle.pb_base.proofs.DeviceLemmas.{appended-appended}
use Rattle.pb_conversations.specs.Conversations.{message_text, texts}

pub none_appended : (old : Option (List ℕ)) → old ≡ appended old []
none_appended None = refl
none_appended (Some held) = ap Some (sym (append-nil held))

-- what is said of an input that is known
pub known : (o : Option (List ℕ)) (bytes : List ℕ) (P : List ℕ → Type 0) → o ≡ Some bytes → IfSome o P → P bytes
known o bytes P is says = subst (λ (o : Option (List ℕ)). IfSome o P) is says

-- texts after others
pub texts_more : (messages told : List Data) (old mid new : Option (List ℕ)) → mid ≡ appended old (texts messages)
    → new ≡ appended mid (texts told) → new ≡ appended old (texts (messages ++ told))
texts_more messages told old mid new first wrote =
    wrote
    ∙ (ap (λ o. appended o (texts told)) first
    ∙ (appended-appended old (texts messages) (texts told)
    ∙ ap (λ (t : List ℕ). appended old t) (sym (flat_map-append message_text messages told))))

-- if a text was written whole, and then a prefix of another one, a prefix of both together was written
pub prefix_behind : (old mid new : Option (List ℕ)) (one more : List ℕ) → mid ≡ appended old one → AddsPrefix mid new more
    → AddsPrefix old new (one ++ more)
prefix_behind old mid new one more first (done, left, is, wrote) = (
  one ++ done,
  left,
  ap (λ (t : List ℕ). one ++ t) is ∙ sym (append_assoc one done left),
  wrote ∙ (ap (λ o. appended o done) first ∙ appended-appended old one done),
)
