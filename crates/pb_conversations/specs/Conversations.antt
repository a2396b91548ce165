-- Conversations: the messages of an input, and what is answered to them in turn.
use Rattle.std.specs.Prelude.{◌≡◌, ◌⊎◌, ◌<◌, ℕ, ◌+◌, List, [], ◌∷◌, ◌++◌, length, Option, Some, None, Bool, true, false, IfSome, codes, ⊤}
use Rattle.std.specs.List.{flat_map}
use Rattle.std.specs.Str.{IsUtf8}
use Rattle.serde_json.specs.Data.{Data}
use Rattle.serde_json.specs.Read.{read}
use Rattle.serde_json.specs.Written.{compact_text, has_float}
use Rattle.pb_base.specs.Device.{appended, one_more_failure, AddsPrefix}
use Rattle.pb_adapter_requests.specs.Requests.{Asked, request_in}
use Rattle.pb_adapter_requests.specs.Responses.{failed_data}
use Rattle.pb_frames.specs.Frames.{IsFrame, IsFrameFault, framed}
use Rattle.pb_frames.specs.declared.fault.FrameFault.{FrameFault}
use Rattle.pb_frames.specs.declared.fault.FrameFault.TheVariants as frame
use Rattle.pb_conversations.specs.declared.conversation.Stop.{Stop}
use Rattle.pb_conversations.specs.declared.conversation.Stop.TheVariants as stop
use Rattle.pb_conversations.specs.declared.conversation.TheConstants.{MAX_MESSAGES}

-- ---- messages

-- a message as it is written
unfoldable pub message_text : Data → List ℕ
message_text message = framed (compact_text message)

-- messages as they are written, one after another
abbrev pub texts : List Data → List ℕ
texts messages = flat_map message_text messages

-- no message has a number that is no integer, so that its text is known
abbrev pub AreFloatFree : List Data → Type 0
AreFloatFree [] = ⊤
AreFloatFree (message ∷ messages) = (has_float message ≡ false) × AreFloatFree messages

-- bytes in memory that were written, and how many writes have failed
pub record SaidBytes : Type 0 where
  pub bytes : List ℕ
  pub failures : ℕ

-- ---- conversations

-- the messages that answer a content: those that answer its request; or why it is none, and nothing changes
pub data AnswersContent {S : Type 0} (Answers : S → ℕ → Asked → List Data → S → Type 0) (s : S) (seq : ℕ) (content : List ℕ)
    : List Data → S → Type 0 where
  asked : (told : List Data) (after : S) (said : Data) (r : Asked) → read content ≡ Some said → request_in said ≡ Some r
      → Answers s seq r told after → AnswersContent Answers s seq content told after
  no_request : (said : Data) → read content ≡ Some said → request_in said ≡ None
      → AnswersContent Answers s seq content (failed_data seq 0 [] (codes "this is not a request") ∷ []) s
  no_json : (IsUtf8 content → read content ≡ None)
      → AnswersContent Answers s seq content (failed_data seq 0 [] (codes "this is not JSON") ∷ []) s

-- the bytes begin with messages of these contents, and the rest comes after them
pub data AreFrames (bytes : List ℕ) : List (List ℕ) → List ℕ → Type 0 where
  none_read : AreFrames bytes [] bytes
  one_read : (contents : List (List ℕ)) (content mid rest : List ℕ)
      → AreFrames bytes contents mid → IsFrame mid content rest → AreFrames bytes (contents ++ content ∷ []) rest

-- the contents are answered in turn by these messages, which are numbered from the first number on, each at a state
-- that is not the last one, and lead from one state to another
pub data Conversation {S : Type 0} (Answers : S → ℕ → Asked → List Data → S → Type 0) (over : S → Bool) (s : S) (first : ℕ)
    : List (List ℕ) → List Data → S → Type 0 where
  none_answered : Conversation Answers over s first [] [] s
  one_answered : (contents : List (List ℕ)) (messages : List Data) (mid : S) (content : List ℕ) (told : List Data) (after : S)
      → Conversation Answers over s first contents messages mid → over mid ≡ false
      → AnswersContent Answers mid (first + length messages) content told after
      → Conversation Answers over s first (contents ++ content ∷ []) (messages ++ told) after

-- the first messages of the input are answered by these messages, and the rest of it is left
pub record Talks {S : Type 0} (Answers : S → ℕ → Asked → List Data → S → Type 0) (over : S → Bool) (s : S) (first : ℕ)
    (bytes rest : List ℕ) (messages : List Data) (after : S) : Type 0 where
  pub contents : List (List ℕ)
  pub frames : AreFrames bytes contents rest
  pub conversation : Conversation Answers over s first contents messages after

-- all messages of the input are answered, none of which led to a last state; or all up to the last state, or as many
-- as there may be; the next message has the next number
pub record TalksOut {S : Type 0} (Answers : S → ℕ → Asked → List Data → S → Type 0) (over : S → Bool) (s : S) (first : ℕ)
    (bytes : List ℕ) (left old new : Option (List ℕ)) (after : S) (next : ℕ) : Type 0 where
  pub rest : List ℕ
  pub messages : List Data
  pub talks : Talks Answers over s first bytes rest messages after
  pub whole : ((rest ≡ []) × (over after ≡ false)) ⊎ ((left ≡ Some rest) × ((over after ≡ true) ⊎ (MAX_MESSAGES < next)))
  pub numbered : next ≡ first + length messages
  pub written : new ≡ appended old (texts messages)

-- ---- ends before that

-- why no further message was read
abbrev pub fault_words : FrameFault → List ℕ
fault_words frame.Early = codes "the input ends within a message"
fault_words frame.Malformed = codes "this is not the header of a message"
fault_words frame.TooLong = codes "the message is too long"
fault_words frame.Memory = codes "out of memory"
fault_words frame.Device = codes "a read failed"

-- the last message that is written then
abbrev pub broken_data : ℕ → FrameFault → Data
broken_data seq fault = failed_data seq 0 [] (fault_words fault)

-- a fault of the bytes of an input, and none of a device or of memory
abbrev pub IsOfBytes : FrameFault → Type 0
IsOfBytes frame.Early = ⊤
IsOfBytes frame.Malformed = ⊤
IsOfBytes frame.TooLong = ⊤
IsOfBytes frame.Memory = ⊥
IsOfBytes frame.Device = ⊥

-- the rest of the input does not begin with a message: a last message with the reason is written
pub record IsBroken (first : ℕ) (rest : List ℕ) (messages : List Data) (old new : Option (List ℕ)) : Type 0 where
  pub fault : FrameFault
  pub of_bytes : IsOfBytes fault
  pub is : IsFrameFault fault rest
  pub written : new ≡ appended old (texts messages ++ message_text (broken_data (first + length messages) fault))

-- how much is written: all, if out of memory; a prefix, if a device failed
abbrev pub WritesBefore : Stop → (first : ℕ) → (rest : List ℕ) → List Data → (old new : Option (List ℕ)) → Type 0
WritesBefore stop.Broken first rest messages old new = IsBroken first rest messages old new
WritesBefore stop.Memory first rest messages old new = new ≡ appended old (texts messages)
WritesBefore stop.Device first rest messages old new =
    (fault : FrameFault) × AddsPrefix old new (texts messages ++ message_text (broken_data (first + length messages) fault))

-- the first messages of the input are answered, and then the conversation breaks off
pub record TalksSome {S : Type 0} (Answers : S → ℕ → Asked → List Data → S → Type 0) (over : S → Bool) (s : S) (first : ℕ)
    (bytes : List ℕ) (old new : Option (List ℕ)) (why : Stop) : Type 0 where
  pub rest : List ℕ
  pub messages : List Data
  pub after : S
  pub talks : Talks Answers over s first bytes rest messages after
  pub written : WritesBefore why first rest messages old new

-- ---- answered before more is read

-- these are the first of the bytes, and the others are still to come
abbrev pub IsReadTo : (bytes read : List ℕ) → (left : Option (List ℕ)) → Type 0
IsReadTo bytes read left = (rest : List ℕ) × (bytes ≡ read ++ rest) × (left ≡ Some rest)

-- a read failed: what is written is the text that follows from the bytes read before it, all of it and no more
abbrev pub SaysBefore : (Follows : List ℕ → List ℕ → Type 0) → (bytes : List ℕ) → (left old new : Option (List ℕ)) → Type 0
SaysBefore Follows bytes left old new =
    (read : List ℕ) × (text : List ℕ) × IsReadTo bytes read left × Follows read text × (new ≡ appended old text)

-- what was whole was answered before more was read: when a read failed, all that follows from the bytes read before it was
-- written, and no write has failed. Any write can fail, so none was made after that read: the answers were written
-- before it. Which read fails cannot be known before it is made, so they are written before each read
abbrev pub AnswersBeforeRead : (Follows : List ℕ → List ℕ → Type 0) → (rest left old new : Option (List ℕ)) → (writes writes' : ℕ) → Type 0
AnswersBeforeRead Follows rest left old new writes writes' =
    (writes' ≡ writes) × IfSome rest (λ bytes. SaysBefore Follows bytes left old new)

-- the text is what answers all messages that are whole in what was read, none of which led to a last state; after them
-- stand at most some first bytes of a further one
pub record AnswersRead {S : Type 0} (Answers : S → ℕ → Asked → List Data → S → Type 0) (over : S → Bool) (s : S) (first : ℕ)
    (read text : List ℕ) : Type 0 where
  pub part : List ℕ
  pub messages : List Data
  pub after : S
  pub talks : Talks Answers over s first read part messages after
  pub goes_on : over after ≡ false
  pub unfinished : IsFrameFault frame.Early part
  pub said : text ≡ texts messages

-- ---- the last message, and counts

-- what is written if no further message was read: why, if that is a fault of the bytes; nothing else
abbrev pub WritesBroken : Stop → FrameFault → (seq : ℕ) → (old new : Option (List ℕ)) → Type 0
WritesBroken stop.Broken fault seq old new = IsOfBytes fault × (new ≡ appended old (message_text (broken_data seq fault)))
WritesBroken stop.Memory fault seq old new = new ≡ old
WritesBroken stop.Device fault seq old new = AddsPrefix old new (message_text (broken_data seq fault))

-- how many reads and writes have failed: one more of them if a device failed, else none
abbrev pub CountsBoth : Stop → (reads reads' writes writes' : ℕ) → Type 0
CountsBoth stop.Broken reads reads' writes writes' = (reads' ≡ reads) × (writes' ≡ writes)
CountsBoth stop.Memory reads reads' writes writes' = (reads' ≡ reads) × (writes' ≡ writes)
CountsBoth stop.Device reads reads' writes writes' =
    ((reads' ≡ one_more_failure reads) × (writes' ≡ writes)) ⊎ ((reads' ≡ reads) × (writes' ≡ one_more_failure writes))

-- how many writes have failed
abbrev pub CountsWrites : Stop → ℕ → ℕ → Type 0
CountsWrites stop.Broken before after = after ≡ before
CountsWrites stop.Memory before after = after ≡ before
CountsWrites stop.Device before after = after ≡ one_more_failure before

-- how much of a reply is written: nothing if out of memory, a prefix if a write failed
abbrev pub WritesReply : Stop → List Data → (old new : Option (List ℕ)) → Type 0
WritesReply stop.Broken told old new = ⊥
WritesReply stop.Memory told old new = new ≡ old
WritesReply stop.Device told old new = AddsPrefix old new (texts told)
