-- Replies that move the run, from what the calls that make them say.
use Rattle.std.proofs.Common.{◌≡◌, ◌<◌, ◌+◌, ℕ, List, [], ◌∷◌, length, Option, Result, Ok, Err, IfOk, Bool, codes, unwrap_or, refl, ap, ◌∙◌, subst, inl, inr}
use Rattle.serde_json.specs.Data.{Data, null}
use Rattle.pb_debug.specs.Value.{Debugging, moved_to}
use Rattle.pb_debug_positions.specs.Searches.{IsFirst}
use Rattle.pb_adapter_requests.specs.Requests.{Asked, Place, number_of, place_of}
use Rattle.pb_adapter_requests.specs.Responses.{done_data, told_by}
use Rattle.pb_adapter_requests.specs.declared.kind.Kind.{Kind}
use Rattle.pb_adapter_requests.specs.declared.kind.Kind.TheVariants as kind
use Rattle.pb_adapter_requests.specs.declared.response.Reply.{Reply}
use Rattle.pb_adapter.specs.Answers.{Client, Continues, ContinuesTo, GoesOn, Says, StepsOn, TriesArm}
use Rattle.pb_adapter.specs.Moves.{Comes, StopPlace, StopsAt, pick_words, saying_data, stopped_data, tried_reason}

module _ {E : Type 0} (made : Result Reply E) (d next : Debugging) (seq : ℕ) (r : Asked) where
  -- the run is moved to this stop, and the event says so
  abbrev pub Moved : StopPlace → Type 0
  Moved stop =
      IfOk made (λ _. next ≡ moved_to d stop.position)
      × IfOk made (λ reply. told_by reply ≡ done_data seq r null ∷ stopped_data (seq + 1) next stop.reason ∷ [])

-- the run goes on to a stop
pub goes_on : {E : Type 0} (made : Result Reply E) (d next : Debugging) (c : Client) (seq : ℕ) (r : Asked) (of : Kind) (lines : List ℕ)
    (at : Place) (stop : StopPlace) → lines ≡ c.lines → at ≡ place_of (number_of (codes "threadId") r) → StopsAt d lines at of stop
    → Moved made d next seq r stop → IfOk made (λ reply. GoesOn d c seq r of (told_by reply) next c)
goes_on (Ok reply) d next c seq r of lines at stop set is stops (moved, told) = (
  stop,
  subst (λ (p : Place). StopsAt d c.lines p of stop) is (subst (λ (ls : List ℕ). StopsAt d ls at of stop) set stops),
  moved,
  refl,
  told,
)
goes_on (Err e) d next c seq r of lines at stop set is stops moves = tt

-- a step along the picks that are there
pub steps_along : {E : Type 0} (made : Result Reply E) (d next : Debugging) (seq : ℕ) (r : Asked) (at : Place) (stop : StopPlace)
    → at ≡ place_of (number_of (codes "threadId") r) → d.position < length d.picks → ((lines : List ℕ) → StopsAt d lines at kind.Step stop)
    → Moved made d next seq r stop → IfOk made (λ reply. (c : Client) → StepsOn d c seq r (told_by reply) next c)
steps_along (Ok reply) d next seq r at stop is within stops (moved, told) = λ c.
    inl (within, (stop, subst (λ (p : Place). StopsAt d c.lines p kind.Step stop) is (stops c.lines), moved, refl, told))
steps_along (Err e) d next seq r at stop is within stops moves = tt

-- a step where the picks end
pub steps_behind : {E : Type 0} (made : Result Reply E) (d next : Debugging) (seq : ℕ) (r : Asked) (thread : Option ℕ)
    → thread ≡ number_of (codes "threadId") r → d.position ≡ length d.picks
    → IfOk made (λ reply. (c : Client) → TriesArm d c seq r thread (told_by reply) next c)
    → IfOk made (λ reply. (c : Client) → StepsOn d c seq r (told_by reply) next c)
steps_behind (Ok reply) d next seq r thread is end tries = λ c.
    inr (end, subst (λ (t : Option ℕ). TriesArm d c seq r t (told_by reply) next c) is (tries c))
steps_behind (Err e) d next seq r thread is end tries = tt

-- the run goes on up to a breakpoint
pub continues : {E : Type 0} (made : Result Reply E) (d next : Debugging) (c : Client) (seq : ℕ) (r : Asked) (lines : List ℕ) (events : Bool)
    → lines ≡ c.lines → events ≡ c.events
    → IfOk made (λ reply. (found : Option ℕ) × IsFirst (Comes d lines) d.position (length d.picks) found
    × ContinuesTo events d seq r found (told_by reply) next)
    → IfOk made (λ reply. Continues d c seq r (told_by reply) next c)
continues (Ok reply) d next c seq r lines events set at (found, first, goes) = (
  found,
  subst (λ (ls : List ℕ). IsFirst (Comes d ls) d.position (length d.picks) found) set first,
  subst (λ (b : Bool). ContinuesTo b d seq r found (told_by reply) next) at goes,
  refl,
)
continues (Err e) d next c seq r lines events set at goes = tt

-- a pick of an arm is tried
pub tried : (d next : Debugging) (c : Client) (seq : ℕ) (r : Asked) (thread : Option ℕ) (words text said reason : List ℕ) (at : Place)
    (of before after : ℕ) (response event : Data) (told : List Data) → words ≡ pick_words d at → at ≡ place_of thread → Says d words text next
    → response ≡ done_data seq r null → event ≡ saying_data (seq + 1) next reason of said → reason ≡ tried_reason before after
    → before ≡ d.position → after ≡ next.position → of ≡ unwrap_or thread 0 → said ≡ text → told ≡ response ∷ event ∷ []
    → TriesArm d c seq r thread told next c
tried d next c seq r thread words text said reason at of before after response event told asked is says done stopped why first last whose same all =
    let here : reason ≡ tried_reason d.position next.position =
    why ∙ (ap (λ (n : ℕ). tried_reason n after) first ∙ ap (λ (n : ℕ). tried_reason d.position n) last) in
    let saying : event ≡ saying_data (seq + 1) next (tried_reason d.position next.position) (unwrap_or thread 0) text =
    stopped
    ∙ (ap (λ (w : List ℕ). saying_data (seq + 1) next w of said) here
    ∙ (ap (λ (n : ℕ). saying_data (seq + 1) next (tried_reason d.position next.position) n said) whose
    ∙ ap (λ (w : List ℕ). saying_data (seq + 1) next (tried_reason d.position next.position) (unwrap_or thread 0) w) same)) in (
      text,
      subst (λ (w : List ℕ). Says d w text next) (asked ∙ ap (λ (p : Place). pick_words d p) is) says,
      refl,
      all ∙ (ap (λ (x : Data). x ∷ event ∷ []) done ∙ ap (λ (x : Data). done_data seq r null ∷ x ∷ []) saying),
    )
