-- The line of each thing that is said.
use Rattle.std.specs.Prelude.{ℕ, Bool, false, cond, List, [], ◌∷◌, ◌++◌, codes, slice_index_or}
use Rattle.std.specs.Fmt.{decimal}
use Rattle.std.specs.List.{flat_map}
use Rattle.pb_base.specs.declared.pair.Pair.{Pair}
use Rattle.pb_base.specs.Lines.{NameTable, line, each_below, name_of, pair_text}
use Rattle.pb_bank.specs.declared.refusal.Refusal.{Refusal}
use Rattle.pb_bank.specs.declared.refusal.Refusal.TheVariants as refused
use Rattle.pb_bank.specs.declared.request.Request.{Request}
use Rattle.pb_bank.specs.declared.said.Jobs.{Jobs}
use Rattle.pb_bank.specs.declared.said.Said.{Said}
use Rattle.pb_bank.specs.declared.said.Said.TheVariants as told
use Rattle.pb_bank.specs.declared.said.Share.{Share}
use Rattle.pb_bank.specs.declared.said.Stock.{Stock}
use Rattle.pb_bank.specs.Sayings.{Saying}

-- ---- requests

-- the first of some pairs in one way, and the others in another
abbrev pub amounts_parted : (first next : Pair → List ℕ) → List Pair → List ℕ
amounts_parted first next [] = []
amounts_parted first next (pair ∷ pairs) = first pair ++ flat_map next pairs

-- `, K R`, after other amounts
abbrev pub next_text : NameTable → Pair → List ℕ
next_text names pair = codes "," ++ pair_text names pair

-- ` K R, K R ..`: the amounts of a request
abbrev pub amounts_text : NameTable → List Pair → List ℕ
amounts_text names pairs = amounts_parted (pair_text names) (next_text names) pairs

-- the line of a request: a word, the job and the amounts
abbrev pub request_text : (word : List ℕ) → NameTable → Request → List ℕ
request_text word names w = line ((word ++ name_of names.processes w.job) ++ amounts_text names w.bundle)

-- ---- refusals

-- the code of a refusal
abbrev pub refusal_code : Refusal → List ℕ
refusal_code refused.Command = codes "B1"
refusal_code (refused.NoComma at) = codes "B1"
refusal_code (refused.Amount at) = codes "B2"
refusal_code refused.Name = codes "B3"
refusal_code (refused.NoResource at) = codes "B4"
refusal_code (refused.NoJob at) = codes "B5"
refusal_code (refused.Twice r) = codes "B6"
refusal_code refused.Taken = codes "B7"
refusal_code refused.Late = codes "B8"
refusal_code refused.Full = codes "B9"
refusal_code (refused.OverCapital r) = codes "B10"
refusal_code (refused.NotHeld r) = codes "B11"
refusal_code refused.HasWish = codes "B12"
refusal_code refused.NoWish = codes "B13"
refusal_code (refused.InUse r) = codes "B14"

-- its words, before what it is about
abbrev pub refusal_words : Refusal → List ℕ
refusal_words refused.Command = codes "not a command"
refusal_words (refused.NoComma at) = codes "not a command: a comma is missing before "
refusal_words (refused.Amount at) = codes "an amount is not in 0..=1000000: "
refusal_words refused.Name = codes "not a name of 1 to 32 bytes"
refusal_words (refused.NoResource at) = codes "no such resource: "
refusal_words (refused.NoJob at) = codes "no such job: "
refusal_words (refused.Twice r) = codes "a resource is named twice: "
refusal_words refused.Taken = codes "the name is taken: "
refusal_words refused.Late = codes "a job was there before the resource"
refusal_words refused.Full = codes "there are as many as there can be: "
refusal_words (refused.OverCapital r) = codes "a claim is over the capital: "
refusal_words (refused.NotHeld r) = codes "the job does not hold as much: "
refusal_words refused.HasWish = codes "the job has a wish in the queue: "
refusal_words refused.NoWish = codes "the job has no wish in the queue: "
refusal_words (refused.InUse r) = codes "the job holds or waits for more: "

-- the line of a refusal about something
abbrev pub refusal_text : (about : List ℕ) → Refusal → List ℕ
refusal_text about refusal =
    line (((codes "refused " ++ refusal_code refusal) ++ codes " ") ++ refusal_words refusal ++ about)

-- ---- jobs

-- the jobs of a set, each after a space
abbrev pub jobs_text : NameTable → List Bool → ℕ → List ℕ
jobs_text names set n = each_below (λ p. cond (slice_index_or set p false) (codes " " ++ name_of names.processes p) []) n

-- the line of a set of jobs, after words
abbrev pub set_text : (words : List ℕ) → NameTable → Jobs → List ℕ
set_text words names jobs = line (words ++ jobs_text names jobs.marks jobs.count)

-- a job after a space
abbrev pub slot_text : NameTable → ℕ → List ℕ
slot_text names p = codes " " ++ name_of names.processes p

-- the jobs of these slots, each after a space
abbrev pub slots_text : NameTable → List ℕ → List ℕ
slots_text names slots = flat_map (slot_text names) slots

-- ---- the state

-- `resource R capital K cash K`
abbrev pub stock_text : NameTable → Stock → List ℕ
stock_text names stock =
    line (codes "resource " ++ name_of names.resources stock.resource ++ codes " capital " ++ decimal stock.capital
    ++ codes " cash " ++ decimal stock.cash)

-- `job J R claim K holds K needs K`
abbrev pub share_text : NameTable → Share → List ℕ
share_text names share =
    line (codes "job " ++ name_of names.processes share.job ++ codes " " ++ name_of names.resources share.resource
    ++ codes " claim " ++ decimal share.claim ++ codes " holds " ++ decimal share.holds
    ++ codes " needs " ++ decimal share.needs)

-- the form of each command
abbrev pub help_text : List ℕ
help_text =
    line (codes "resource R K") ++ line (codes "job J K R, ..") ++ line (codes "ask J K R, ..")
    ++ line (codes "want J K R, ..") ++ line (codes "drop J")
    ++ line (codes "give J K R, ..") ++ line (codes "leave J")
    ++ line (codes "capital R K") ++ line (codes "claim J K R")
    ++ line (codes "why J K R, ..") ++ line (codes "hold J K R, ..")
    ++ line (codes "order") ++ line (codes "order J ..")
    ++ line (codes "state") ++ line (codes "help")

-- ---- all

-- the line of a thing that is about something
abbrev pub said_line : NameTable → (about : List ℕ) → Said → List ℕ
said_line names about (told.Granted w) = request_text (codes "granted ") names w
said_line names about (told.Held w) = request_text (codes "held ") names w
said_line names about (told.Wish w) = request_text (codes "wish ") names w
said_line names about (told.OverClaim r) = line (codes "over claim " ++ name_of names.resources r)
said_line names about (told.WaitCash r cash) =
    line (codes "wait cash " ++ name_of names.resources r ++ codes " " ++ decimal cash)
said_line names about (told.WaitRest jobs) = set_text (codes "wait rest") names jobs
said_line names about (told.Claimed jobs) = set_text (codes "claimed") names jobs
said_line names about (told.Order slots) = line (codes "order" ++ slots_text names slots)
said_line names about (told.Lacks p r) =
    line (codes "lacks " ++ name_of names.processes p ++ codes " " ++ name_of names.resources r)
said_line names about (told.Twice p) = line (codes "twice " ++ name_of names.processes p)
said_line names about (told.Missing p) = line (codes "missing " ++ name_of names.processes p)
said_line names about (told.Resource stock) = stock_text names stock
said_line names about (told.Job share) = share_text names share
said_line names about told.Allowed = line (codes "allowed")
said_line names about told.Queued = line (codes "queued")
said_line names about told.Finishes = line (codes "finishes")
said_line names about (told.Refused refusal) = refusal_text about refusal
said_line names about told.Help = help_text
said_line names about told.Ready = line (codes "ready")
said_line names about told.NoMemory = line (codes "memory")

-- a thing as its line; the forms of the commands as a line for each
abbrev pub line_of : Saying → List ℕ
line_of s = said_line s.names s.about s.said
