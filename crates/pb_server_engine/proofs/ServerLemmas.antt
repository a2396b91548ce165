-- From what a conversation says to what is said of an input.
use Rattle.std.proofs.Common.{◌≡◌, ℕ, List, Option, IfSome, refl, subst, inl}
use Rattle.serde_json.specs.Data.{Data}
use Rattle.pb_base.specs.Device.{appended}
use Rattle.pb_command_io.specs.Answers.{Tells}
use Rattle.pb_command_io.specs.declared.status.Status.{Status}
use Rattle.pb_conversations.specs.declared.conversation.Stop.{Stop}
use Rattle.pb_conversations.specs.declared.conversation.Stop.TheVariants as stop
use Rattle.pb_conversations.specs.Conversations.{SaysBefore, texts}
use Rattle.pb_server.specs.Answers.{Serving}
use Rattle.pb_server.specs.Conversations.{AnswersRead, TalksOut, TalksSome, WritesBefore, fresh}
use Rattle.pb_server_engine.specs.Servers.{AnswersMessages, Diagnoses, Finds, SaysOfServer, WritesText, broke_off, end_status, served, stop_status}

-- what is written, if a conversation breaks off
text_of_stop : (why : Stop) (rest : List ℕ) (messages : List Data) (old new : Option (List ℕ))
    → WritesBefore why rest messages old new → (text : List ℕ) × WritesText why rest messages text × (new ≡ appended old text)
text_of_stop stop.Broken rest messages old new (why, of, is, wrote) = (_, (why, of, is, refl), wrote)
text_of_stop stop.Memory rest messages old new is = (texts messages, refl, is)
text_of_stop stop.Device rest messages old new (why, (done, left, is, wrote)) = (done, (why, left, is), wrote)

-- all messages are answered
pub all_served : (s : Serving) (bytes : List ℕ) (old new : Option (List ℕ)) (after : Serving) (given : Status) → s ≡ fresh
    → given ≡ end_status after.phase → TalksOut Diagnoses Finds s bytes old new after → Tells (SaysOfServer bytes) old new given
all_served s bytes old new after given is ends t =
    let t = subst (λ (s : Serving). TalksOut Diagnoses Finds s bytes old new after) is t in
    (texts t.messages, end_status after.phase, served t.rest t.messages after t.talks t.whole, inl (t.written, ends))

-- or the conversation breaks off
pub some_served : (s : Serving) (bytes : List ℕ) (old new : Option (List ℕ)) (why : Stop) (given : Status) → s ≡ fresh
    → given ≡ stop_status why → TalksSome Diagnoses Finds s bytes old new why → Tells (SaysOfServer bytes) old new given
some_served s bytes old new why given is ends t =
    let t = subst (λ (s : Serving). TalksSome Diagnoses Finds s bytes old new why) is t in
    let (text, writes, wrote) = text_of_stop why t.rest t.messages old new t.written in
    (text, stop_status why, broke_off t.rest t.messages t.after t.talks why text writes, inl (wrote, ends))

-- a read failed
pub read_served : (s : Serving) (o left old new : Option (List ℕ)) → s ≡ fresh
    → IfSome o (λ bytes. SaysBefore (AnswersRead Diagnoses Finds s) bytes left old new)
    → IfSome o (λ bytes. SaysBefore AnswersMessages bytes left old new)
read_served s o left old new is says =
    subst (λ (s : Serving). IfSome o (λ bytes. SaysBefore (AnswersRead Diagnoses Finds s) bytes left old new)) is says
