-- What `dap` says of an input, and with which status.
use Rattle.std.specs.Prelude.{◌≡◌, ◌⊎◌, ◌<◌, ℕ, ◌+◌, List, [], ◌++◌, length, Some, None, Bool, true, false}
use Rattle.serde_json.specs.Data.{Data}
use Rattle.pb_command_io.specs.declared.status.Status.{Status}
use Rattle.pb_command_io.specs.declared.status.Status.TheVariants as status
use Rattle.pb_conversations.specs.Conversations.{AnswersRead, IsOfBytes, Talks, broken_data, message_text, texts}
use Rattle.pb_conversations.specs.declared.conversation.Stop.{Stop}
use Rattle.pb_conversations.specs.declared.conversation.Stop.TheVariants as stop
use Rattle.pb_conversations.specs.declared.conversation.TheConstants.{MAX_MESSAGES}
use Rattle.pb_debug.specs.Value.{IsPosition, at_start, showing}
use Rattle.pb_frames.specs.Frames.{IsFrameFault}
use Rattle.pb_frames.specs.declared.fault.FrameFault.{FrameFault}
use Rattle.pb_history.specs.Replays.{spread}
use Rattle.pb_adapter.specs.Sessions.{AnswersIn, Debugged}
use Rattle.pb_adapter_engine.specs.Waiting.{AnswersWaiting, LaunchedText, WaitingValue, nobody}

-- the status for the end of a conversation that breaks off
abbrev pub stop_status : Stop → Status
stop_status stop.Broken = status.Refused
stop_status stop.Memory = status.Memory
stop_status stop.Device = status.Device

-- the last message: why no further one was read
abbrev pub last_text : (first : ℕ) → List Data → FrameFault → List ℕ
last_text first messages fault = message_text (broken_data (first + length messages) fault)

-- what is written if a conversation breaks off: all messages, and why no further one was read, if what comes next
-- is none; all, if out of memory; a first part, if a device failed
abbrev pub WritesText : Stop → (first : ℕ) → (rest : List ℕ) → List Data → List ℕ → Type 0
WritesText stop.Broken first rest messages text =
    (fault : FrameFault) × IsOfBytes fault × IsFrameFault fault rest × (text ≡ texts messages ++ last_text first messages fault)
WritesText stop.Memory first rest messages text = text ≡ texts messages
WritesText stop.Device first rest messages text =
    (fault : FrameFault) × (left : List ℕ) × (texts messages ++ last_text first messages fault ≡ text ++ left)

-- why nothing more is answered: the input is at its end, the client has gone, or there are as many messages as there
-- may be
abbrev pub IsEnd : (rest : List ℕ) → (over : Bool) → (next : ℕ) → Type 0
IsEnd rest over next = (rest ≡ []) ⊎ ((over ≡ true) ⊎ (MAX_MESSAGES < next))

-- ---- a session

-- what is written of messages of this number on, and the status
pub data SaysOfSession (s : Debugged) (first : ℕ) (bytes : List ℕ) : List ℕ → Status → Type 0 where
  debugged : (rest : List ℕ) (messages : List Data) (after : Debugged) → Talks AnswersIn (λ s. s.over) s first bytes rest messages after
      → IsEnd rest after.over (first + length messages) → SaysOfSession s first bytes (texts messages) status.Done
  broke_off : (rest : List ℕ) (messages : List Data) (after : Debugged) → Talks AnswersIn (λ s. s.over) s first bytes rest messages after
      → (why : Stop) (text : List ℕ) → WritesText why first rest messages text
      → SaysOfSession s first bytes text (stop_status why)

-- the session of what was launched, at the start, with nothing to stop at
abbrev pub opened : LaunchedText → Debugged
opened l = record {
  debugger = showing (Some l.source) (at_start l.lending l.verified l.labels (spread l.counted));
  client = record { lines = []; events = false; path = l.path; counting = l.counting };
  over = false;
}

-- the session of what was launched; or out of memory for it
pub data SaysOfLaunched (l : LaunchedText) (first : ℕ) (bytes : List ℕ) : List ℕ → Status → Type 0 where
  in_session : IsPosition (opened l).debugger → (text : List ℕ) (given : Status) → SaysOfSession (opened l) first bytes text given
      → SaysOfLaunched l first bytes text given
  no_memory : SaysOfLaunched l first bytes [] status.Memory

-- ---- all messages

-- the first messages are answered while nothing is launched
abbrev pub Waits : (bytes rest : List ℕ) → List Data → WaitingValue → Type 0
Waits bytes rest messages after = Talks AnswersWaiting (λ s. s.over) nobody 1 bytes rest messages after

-- what is written of an input, and the status: nothing was launched; or something was, and the messages after the
-- launch are answered by its session; or the conversation broke off before a launch
pub data SaysOfAdapter (bytes : List ℕ) : List ℕ → Status → Type 0 where
  waited : (rest : List ℕ) (messages : List Data) (after : WaitingValue) → Waits bytes rest messages after
      → IsEnd rest after.over (1 + length messages) → after.launched ≡ None → SaysOfAdapter bytes (texts messages) status.Done
  launched : (rest : List ℕ) (messages : List Data) (after : WaitingValue) → Waits bytes rest messages after
      → (l : LaunchedText) → after.launched ≡ Some l
      → (text : List ℕ) (given : Status) → SaysOfLaunched l (1 + length messages) rest text given
      → SaysOfAdapter bytes (texts messages ++ text) given
  broke_off : (rest : List ℕ) (messages : List Data) (after : WaitingValue) → Waits bytes rest messages after
      → (why : Stop) (text : List ℕ) → WritesText why 1 rest messages text → SaysOfAdapter bytes text (stop_status why)

-- ---- a read that fails

-- the text is what answers all messages that are whole in what was read: while nothing is launched, and after a launch
-- in its session
pub data AnswersMessages (read : List ℕ) : List ℕ → Type 0 where
  before_launch : (text : List ℕ) → AnswersRead AnswersWaiting (λ s. s.over) nobody 1 read text → AnswersMessages read text
  after_launch : (rest : List ℕ) (messages : List Data) (after : WaitingValue) → Waits read rest messages after
      → (l : LaunchedText) → after.launched ≡ Some l
      → (text : List ℕ) → AnswersRead AnswersIn (λ s. s.over) (opened l) (1 + length messages) rest text
      → AnswersMessages read (texts messages ++ text)
