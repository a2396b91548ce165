-- What is answered before a text is launched.
use Rattle.std.proofs.Common.{◌≡◌, ℕ, List, [], ◌∷◌, Option, Some, None, true, codes, refl, sym, subst}
use Rattle.std.proofs.lemmas.Option.{none-some}
use Rattle.serde_json.specs.Data.{Data, null}
use Rattle.pb_base.specs.declared.lending.Lending.{Lending}
use Rattle.pb_conversations.specs.Conversations.{AnswersContent, AreFloatFree, Conversation, asked, no_request, no_json, none_answered, one_answered}
use Rattle.pb_adapter.proofs.FloatFree.{refused_free, shown_free}
use Rattle.pb_adapter_requests.specs.Kinds.{kind_of}
use Rattle.pb_adapter_requests.specs.Requests.{Asked, text_of}
use Rattle.pb_adapter_requests.specs.declared.kind.Kind.{Kind}
use Rattle.pb_adapter_requests.specs.declared.kind.Kind.TheVariants as kind
use Rattle.pb_adapter_engine.specs.Waiting.{AnswersWaiting, AnswersWaitingKind, LaunchedText, Launches, LaunchesBy, LaunchesLent, LaunchesNamed, LaunchesText, WaitingValue}
use Rattle.pb_adapter_engine.specs.Waiting.{launched, lending_of, nobody, path_of, seed_of, unfit}

-- ---- no message has a number that is no integer

text_free : (s next : WaitingValue) (seq : ℕ) (r : Asked) (words : List ℕ) (lending : Lending) (seed : Option ℕ) (told : List Data)
    → LaunchesText s seq r words lending seed told next → AreFloatFree told
text_free s _ seq r words lending seed _ (launched l is) = (refl, (refl, tt))
text_free s _ seq r words lending seed _ (unfit refusal is told tells) = refused_free seq r _ told tells.2

by_free : (s next : WaitingValue) (seq : ℕ) (r : Asked) (words : List ℕ) (lending : Lending) (seed : Option (Option ℕ)) (told : List Data)
    → LaunchesBy s seq r words lending seed told next → AreFloatFree told
by_free s next seq r words lending None told is = refused_free seq r _ told is.0
by_free s next seq r words lending (Some seed) told is = text_free s next seq r words lending seed told is

lent_free : (s next : WaitingValue) (seq : ℕ) (r : Asked) (words : List ℕ) (lending : Option Lending) (told : List Data)
    → LaunchesLent s seq r words lending told next → AreFloatFree told
lent_free s next seq r words None told is = refused_free seq r _ told is.0
lent_free s next seq r words (Some lending) told is = by_free s next seq r words lending (seed_of r) told is

named_free : (s next : WaitingValue) (seq : ℕ) (r : Asked) (words path : List ℕ) (told : List Data)
    → LaunchesNamed s seq r words path told next → AreFloatFree told
named_free s next seq r words [] told is = refused_free seq r _ told is.0
named_free s next seq r words (b ∷ bs) told is = lent_free s next seq r words (lending_of r) told is

launch_free : (s next : WaitingValue) (seq : ℕ) (r : Asked) (words : Option (List ℕ)) (told : List Data)
    → Launches s seq r words told next → AreFloatFree told
launch_free s next seq r None told is = refused_free seq r _ told is.0
launch_free s next seq r (Some words) told is = named_free s next seq r words (path_of r) told is

pub waiting_free : (of : Kind) (s next : WaitingValue) (seq : ℕ) (r : Asked) (told : List Data)
    → AnswersWaitingKind of s seq r told next → AreFloatFree told
waiting_free kind.Initialize s next seq r told is = shown_free seq r _ told refl is.0
waiting_free kind.Launch s next seq r told is = launch_free s next seq r (text_of (codes "text") r) told is
waiting_free kind.SetBreakpoints s next seq r told is = refused_free seq r _ told is.0
waiting_free kind.ConfigurationDone s next seq r told is = refused_free seq r _ told is.0
waiting_free kind.SetEvents s next seq r told is = refused_free seq r _ told is.0
waiting_free kind.Disconnect s next seq r told is = shown_free seq r null told refl is.0
waiting_free kind.Terminate s next seq r told is = refused_free seq r _ told is.0
waiting_free kind.Threads s next seq r told is = refused_free seq r _ told is.0
waiting_free kind.StackTrace s next seq r told is = refused_free seq r _ told is.0
waiting_free kind.Scopes s next seq r told is = refused_free seq r _ told is.0
waiting_free kind.Variables s next seq r told is = refused_free seq r _ told is.0
waiting_free kind.Evaluate s next seq r told is = refused_free seq r _ told is.0
waiting_free kind.Continue s next seq r told is = refused_free seq r _ told is.0
waiting_free kind.ReverseContinue s next seq r told is = refused_free seq r _ told is.0
waiting_free kind.Step s next seq r told is = refused_free seq r _ told is.0
waiting_free kind.StepBack s next seq r told is = refused_free seq r _ told is.0
waiting_free kind.Restart s next seq r told is = refused_free seq r _ told is.0
waiting_free kind.Pause s next seq r told is = refused_free seq r _ told is.0
waiting_free kind.Unknown s next seq r told is = refused_free seq r _ told is.0

-- ---- what answers a request

-- ---- once a text is launched, nothing more is answered here

-- a state at which that holds
abbrev pub EndsAtLaunch : WaitingValue → Type 0
EndsAtLaunch s = (l : LaunchedText) → s.launched ≡ Some l → s.over ≡ true

same_ends : (s next : WaitingValue) → next ≡ s → EndsAtLaunch s → EndsAtLaunch next
same_ends s next is ends = subst EndsAtLaunch (sym is) ends

text_ends : (s next : WaitingValue) (seq : ℕ) (r : Asked) (words : List ℕ) (lending : Lending) (seed : Option ℕ) (told : List Data)
    → LaunchesText s seq r words lending seed told next → EndsAtLaunch s → EndsAtLaunch next
text_ends s _ seq r words lending seed _ (launched l is) ends = λ l' same. refl
text_ends s _ seq r words lending seed _ (unfit refusal is told tells) ends = ends

by_ends : (s next : WaitingValue) (seq : ℕ) (r : Asked) (words : List ℕ) (lending : Lending) (seed : Option (Option ℕ)) (told : List Data)
    → LaunchesBy s seq r words lending seed told next → EndsAtLaunch s → EndsAtLaunch next
by_ends s next seq r words lending None told is ends = same_ends s next is.1 ends
by_ends s next seq r words lending (Some seed) told is ends = text_ends s next seq r words lending seed told is ends

lent_ends : (s next : WaitingValue) (seq : ℕ) (r : Asked) (words : List ℕ) (lending : Option Lending) (told : List Data)
    → LaunchesLent s seq r words lending told next → EndsAtLaunch s → EndsAtLaunch next
lent_ends s next seq r words None told is ends = same_ends s next is.1 ends
lent_ends s next seq r words (Some lending) told is ends = by_ends s next seq r words lending (seed_of r) told is ends

named_ends : (s next : WaitingValue) (seq : ℕ) (r : Asked) (words path : List ℕ) (told : List Data)
    → LaunchesNamed s seq r words path told next → EndsAtLaunch s → EndsAtLaunch next
named_ends s next seq r words [] told is ends = same_ends s next is.1 ends
named_ends s next seq r words (b ∷ bs) told is ends = lent_ends s next seq r words (lending_of r) told is ends

launch_ends : (s next : WaitingValue) (seq : ℕ) (r : Asked) (words : Option (List ℕ)) (told : List Data)
    → Launches s seq r words told next → EndsAtLaunch s → EndsAtLaunch next
launch_ends s next seq r None told is ends = same_ends s next is.1 ends
launch_ends s next seq r (Some words) told is ends = named_ends s next seq r words (path_of r) told is ends

kind_ends : (of : Kind) (s next : WaitingValue) (seq : ℕ) (r : Asked) (told : List Data)
    → AnswersWaitingKind of s seq r told next → EndsAtLaunch s → EndsAtLaunch next
kind_ends kind.Initialize s next seq r told is ends = subst EndsAtLaunch (sym is.1) ends
kind_ends kind.Launch s next seq r told is ends = launch_ends s next seq r (text_of (codes "text") r) told is ends
kind_ends kind.Disconnect s next seq r told is ends = subst EndsAtLaunch (sym is.1) (λ l same. refl)
kind_ends kind.SetBreakpoints s next seq r told is ends = same_ends s next is.1 ends
kind_ends kind.ConfigurationDone s next seq r told is ends = same_ends s next is.1 ends
kind_ends kind.SetEvents s next seq r told is ends = same_ends s next is.1 ends
kind_ends kind.Terminate s next seq r told is ends = same_ends s next is.1 ends
kind_ends kind.Threads s next seq r told is ends = same_ends s next is.1 ends
kind_ends kind.StackTrace s next seq r told is ends = same_ends s next is.1 ends
kind_ends kind.Scopes s next seq r told is ends = same_ends s next is.1 ends
kind_ends kind.Variables s next seq r told is ends = same_ends s next is.1 ends
kind_ends kind.Evaluate s next seq r told is ends = same_ends s next is.1 ends
kind_ends kind.Continue s next seq r told is ends = same_ends s next is.1 ends
kind_ends kind.ReverseContinue s next seq r told is ends = same_ends s next is.1 ends
kind_ends kind.Step s next seq r told is ends = same_ends s next is.1 ends
kind_ends kind.StepBack s next seq r told is ends = same_ends s next is.1 ends
kind_ends kind.Restart s next seq r told is ends = same_ends s next is.1 ends
kind_ends kind.Pause s next seq r told is ends = same_ends s next is.1 ends
kind_ends kind.Unknown s next seq r told is ends = same_ends s next is.1 ends

content_ends : (s next : WaitingValue) (seq : ℕ) (content : List ℕ) (told : List Data)
    → AnswersContent AnswersWaiting s seq content told next → EndsAtLaunch s → EndsAtLaunch next
content_ends s next seq content told (asked _ _ said r reads is answers) ends = kind_ends (kind_of r.command) s next seq r told answers ends
content_ends s _ seq content _ (no_request said reads is) ends = ends
content_ends s _ seq content _ (no_json none) ends = ends

pub launch_is_last : (contents : List (List ℕ)) (messages : List Data) (after : WaitingValue)
    → Conversation AnswersWaiting (λ s. s.over) nobody 1 contents messages after → EndsAtLaunch after
launch_is_last _ _ _ none_answered = λ l same. absurd (none-some l same)
launch_is_last _ _ _ (one_answered contents messages mid content told after before on answers) =
    content_ends mid after _ content told answers (launch_is_last contents messages mid before)
