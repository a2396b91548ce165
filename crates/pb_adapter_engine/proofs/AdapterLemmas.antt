-- From what a conversation says to what is said of an input.
use Rattle.std.proofs.Common.{◌≡◌, ◌⊎◌, ◌<◌, ℕ, ◌+◌, List, [], ◌++◌, length, Bool, Option, Some, None, IfSome, true, true≢false, refl, sym, ap, ◌∙◌, subst, inl, inr, append_assoc, append-nil}
use Rattle.serde_json.specs.Data.{Data}
use Rattle.pb_adapter_requests.specs.Requests.{Asked}
use Rattle.pb_adapter_requests.specs.declared.counting.Counting.{Counting}
use Rattle.pb_base.specs.Device.{appended}
use Rattle.pb_base.proofs.DeviceLemmas.{appended-appended}
use Rattle.pb_command_io.specs.Answers.{Tells}
use Rattle.pb_command_io.specs.declared.status.Status.{Status}
use Rattle.pb_command_io.specs.declared.status.Status.TheVariants as status
use Rattle.pb_conversations.specs.Conversations.{AnswersRead, SaysBefore, TalksOut, TalksSome, WritesBefore, texts}
use Rattle.pb_conversations.proofs.ConversationLemmas.{front_of, read_to}
use Rattle.pb_debug.specs.Value.{Debugging, IsPosition, at_start, showing}
use Rattle.pb_base.specs.declared.lending.Lending.{Lending}
use Rattle.pb_code.specs.Whole.{ProcessLabels}
use Rattle.pb_history.specs.Replays.{spread}
use Rattle.pb_history.specs.declared.counted.CountedPick.{CountedPick}
use Rattle.pb_verifier.specs.Verified.{VerifiedCode}
use Rattle.pb_conversations.specs.declared.conversation.Stop.{Stop}
use Rattle.pb_conversations.specs.declared.conversation.Stop.TheVariants as stop
use Rattle.pb_adapter.specs.Sessions.{AnswersIn, Debugged}
use Rattle.pb_adapter_engine.specs.Adapters.{AnswersMessages, IsEnd, SaysOfAdapter, before_launch, after_launch, opened, SaysOfLaunched, SaysOfSession, WritesText, stop_status}
use Rattle.pb_adapter_engine.specs.Adapters as says
use Rattle.pb_adapter_engine.specs.Waiting.{AnswersWaiting, LaunchedText, WaitingValue, nobody}
use Rattle.pb_adapter_engine.proofs.WaitingLemmas.{launch_is_last}

-- what is written, if a conversation breaks off
pub text_of_stop : (why : Stop) (first : ℕ) (rest : List ℕ) (messages : List Data) (old new : Option (List ℕ))
    → WritesBefore why first rest messages old new → (text : List ℕ) × WritesText why first rest messages text × (new ≡ appended old text)
text_of_stop stop.Broken first rest messages old new is =
    (_, (is.fault, is.of_bytes, is.is, refl), is.written)
text_of_stop stop.Memory first rest messages old new is = (texts messages, refl, is)
text_of_stop stop.Device first rest messages old new (fault, (done, left, is, wrote)) = (done, (fault, left, is), wrote)

-- why nothing more is answered
end_of : {S : Type 0} (Answers : S → ℕ → Asked → List Data → S → Type 0) (over : S → Bool) (s : S) (first : ℕ) (bytes : List ℕ)
    (left old new : Option (List ℕ)) (after : S) (next : ℕ) (t : TalksOut Answers over s first bytes left old new after next)
    → IsEnd t.rest (over after) (first + length t.messages)
end_of Answers over s first bytes left old new after next t =
    elim t.whole [
      | inl end ↦ inl end.0
      | inr more ↦ inr (subst (λ n. (over after ≡ true) ⊎ (4294967295 < n)) t.numbered more.1)
    ]

-- ---- a session

pub session_done : (s : Debugged) (first : ℕ) (bytes : List ℕ) (left old new : Option (List ℕ)) (after : Debugged) (next : ℕ)
    → TalksOut AnswersIn (λ s. s.over) s first bytes left old new after next → Tells (SaysOfSession s first bytes) old new status.Done
session_done s first bytes left old new after next t = (
  texts t.messages,
  status.Done,
  says.debugged t.rest t.messages after t.talks (end_of AnswersIn (λ s. s.over) s first bytes left old new after next t),
  inl (t.written, refl),
)

pub session_broken : (s : Debugged) (first : ℕ) (bytes : List ℕ) (old new : Option (List ℕ)) (why : Stop) (given : Status)
    → given ≡ stop_status why → TalksSome AnswersIn (λ s. s.over) s first bytes old new why → Tells (SaysOfSession s first bytes) old new given
session_broken s first bytes old new why given is t =
    let (text, writes, wrote) = text_of_stop why first t.rest t.messages old new t.written in (
      text,
      stop_status why,
      says.SaysOfSession.broke_off t.rest t.messages t.after t.talks why text writes,
      inl (wrote, is),
    )

-- ---- what was launched

pub launched_known : (l : LaunchedText) (first : ℕ) (bytes : List ℕ) (s : Debugged) (old new : Option (List ℕ)) (given : Status)
    → s ≡ says.opened l → IsPosition (says.opened l).debugger → Tells (SaysOfSession s first bytes) old new given → Tells (SaysOfLaunched l first bytes) old new given
launched_known l first bytes s old new given is placed (text, done, session, wrote) = (
  text,
  done,
  says.in_session placed text done (subst (λ (s : Debugged). SaysOfSession s first bytes text done) is session),
  wrote,
)

-- the debugger of what was launched
pub opened_debugger : (lending : Lending) (verified v : VerifiedCode) (labels shown : List ProcessLabels) (counted cs : List CountedPick)
    (source text path : List ℕ) (counting : Counting) (d d' : Debugging) → v ≡ verified → shown ≡ labels → cs ≡ counted → text ≡ source
    → d ≡ at_start lending v shown (spread cs) → d' ≡ showing (Some text) d
    → d' ≡ (says.opened (record { lending = lending; verified = verified; labels = labels; counted = counted; source = source; path = path; counting = counting })).debugger
opened_debugger lending verified v labels shown counted cs source text path counting d d' code of picks bytes is is' =
    is'
    ∙ ap (λ (x : List ℕ). showing (Some x) d) bytes
    ∙ ap (λ (x : Debugging). showing (Some source) x) is
    ∙ ap (λ (x : VerifiedCode). showing (Some source) (at_start lending x shown (spread cs))) code
    ∙ ap (λ (x : List ProcessLabels). showing (Some source) (at_start lending verified x (spread cs))) of
    ∙ ap (λ (x : List CountedPick). showing (Some source) (at_start lending verified labels (spread x))) picks

-- out of memory, and nothing is written
none_appended : (old : Option (List ℕ)) → old ≡ appended old []
none_appended None = refl
none_appended (Some held) = ap Some (sym (append-nil held))

pub no_launch : (l : LaunchedText) (first : ℕ) (bytes : List ℕ) (old : Option (List ℕ)) → Tells (SaysOfLaunched l first bytes) old old status.Memory
no_launch l first bytes old = ([], status.Memory, says.no_memory, inl (none_appended old, refl))

-- ---- an input

-- the conversation broke off before a launch
pub waiting_broken : (bytes : List ℕ) (old new : Option (List ℕ)) (why : Stop) (given : Status) → given ≡ stop_status why
    → TalksSome AnswersWaiting (λ s. s.over) nobody 1 bytes old new why → Tells (SaysOfAdapter bytes) old new given
waiting_broken bytes old new why given is t =
    let (text, writes, wrote) = text_of_stop why 1 t.rest t.messages old new t.written in
    (text, stop_status why, says.SaysOfAdapter.broke_off t.rest t.messages t.after t.talks why text writes, inl (wrote, is))

module _ (bytes : List ℕ) (left old mid : Option (List ℕ)) (after : WaitingValue) (next : ℕ)
    (t : TalksOut AnswersWaiting (λ s. s.over) nobody 1 bytes left old mid after next) where
  -- nothing was launched
  pub waiting_done : after.launched ≡ None → Tells (SaysOfAdapter bytes) old mid status.Done
  waiting_done none = (
    texts t.messages,
    status.Done,
    says.waited t.rest t.messages after t.talks (end_of AnswersWaiting (λ s. s.over) nobody 1 bytes left old mid after next t) none,
    inl (t.written, refl),
  )

  -- the messages after a launch are known
  left_known : (l : LaunchedText) → after.launched ≡ Some l → left ≡ Some t.rest
  left_known l is =
      let over = launch_is_last t.talks.contents t.messages after t.talks.conversation l is in
      elim t.whole [
        | inl end ↦ absurd (true≢false (sym over ∙ end.1))
        | inr more ↦ more.0
      ]

  behind : (l : LaunchedText) → after.launched ≡ Some l → (new : Option (List ℕ)) (given : Status)
      → Tells (SaysOfLaunched l (1 + length t.messages) t.rest) mid new given → Tells (SaysOfAdapter bytes) old new given
  behind l is new given (text, done, of, inl (wrote, same)) = (
    texts t.messages ++ text,
    done,
    says.launched t.rest t.messages after t.talks l is text done of,
    inl (wrote ∙ (ap (λ (o : Option (List ℕ)). appended o text) t.written ∙ appended-appended old (texts t.messages) text), same),
  )
  behind l is new given (text, done, of, inr ((part, rest, cut, wrote), same)) = (
    texts t.messages ++ text,
    done,
    says.launched t.rest t.messages after t.talks l is text done of,
    inr (
      (
        texts t.messages ++ part,
        rest,
        ap (λ (x : List ℕ). texts t.messages ++ x) cut ∙ sym (append_assoc (texts t.messages) part rest),
        wrote ∙ (ap (λ (o : Option (List ℕ)). appended o part) t.written ∙ appended-appended old (texts t.messages) part),
      ),
      same,
    ),
  )

  -- what was launched is debugged
  pub launched_told : (l : LaunchedText) → after.launched ≡ Some l → (new : Option (List ℕ)) (given : Status)
      → IfSome left (λ rest. Tells (SaysOfLaunched l next rest) mid new given) → Tells (SaysOfAdapter bytes) old new given
  launched_told l is new given told =
      behind l is new given
      (subst (λ (n : ℕ). Tells (SaysOfLaunched l n t.rest) mid new given) t.numbered
      (subst (λ (o : Option (List ℕ)). IfSome o (λ rest. Tells (SaysOfLaunched l next rest) mid new given)) (left_known l is) told))

  -- a read failed while what was launched was debugged
  pub launched_read : (l : LaunchedText) → after.launched ≡ Some l → (left' new : Option (List ℕ))
      → IfSome left (λ rest. SaysBefore (AnswersRead AnswersIn (λ s. s.over) (opened l) next) rest left' mid new)
      → SaysBefore AnswersMessages bytes left' old new
  launched_read l is left' new says =
      let here : SaysBefore (AnswersRead AnswersIn (λ s. s.over) (opened l) next) t.rest left' mid new =
      subst (λ (o : Option (List ℕ)). IfSome o (λ rest. SaysBefore (AnswersRead AnswersIn (λ s. s.over) (opened l) next) rest left' mid new))
      (left_known l is) says in
      let f = front_of bytes t.talks.contents t.rest t.talks.frames in (
        f.front ++ here.0,
        texts t.messages ++ here.1,
        read_to bytes f.front t.rest here.0 here.2.0 left' f.cut here.2.1 here.2.2,
        after_launch here.0 t.messages after
            (record { contents = t.talks.contents; frames = f.frames here.0; conversation = t.talks.conversation }) l is here.1
            (subst (λ (n : ℕ). AnswersRead AnswersIn (λ s. s.over) (opened l) n here.0 here.1) t.numbered here.3),
        here.4 ∙ (ap (λ (o : Option (List ℕ)). appended o here.1) t.written ∙ appended-appended old (texts t.messages) here.1),
      )

-- a read failed before a launch
pub waiting_read : (s : WaitingValue) (o left old new : Option (List ℕ)) → s ≡ nobody
    → IfSome o (λ bytes. SaysBefore (AnswersRead AnswersWaiting (λ s. s.over) s 1) bytes left old new)
    → IfSome o (λ bytes. SaysBefore AnswersMessages bytes left old new)
waiting_read s None left old new is says = tt
waiting_read s (Some bytes) left old new is says =
    let here = subst (λ (s : WaitingValue). SaysBefore (AnswersRead AnswersWaiting (λ s. s.over) s 1) bytes left old new) is says in
    (here.0, here.1, here.2, before_launch here.1 here.3, here.4)
