-- The object of JSON of each thing that is said.
use Rattle.std.specs.Prelude.{ℕ, List, [], ◌++◌, codes, drop}
use Rattle.std.specs.Fmt.{decimal}
use Rattle.pb_base.specs.declared.pair.Pair.{Pair}
use Rattle.pb_base.specs.Lines.{NameTable, name_of}
use Rattle.pb_bank.specs.declared.refusal.Refusal.{Refusal}
use Rattle.pb_bank.specs.declared.request.Request.{Request}
use Rattle.pb_bank.specs.declared.said.Said.{Said}
use Rattle.pb_bank.specs.declared.said.Said.TheVariants as told
use Rattle.pb_bank.specs.declared.said.Share.{Share}
use Rattle.pb_bank.specs.declared.said.Stock.{Stock}
use Rattle.pb_bank.specs.Sayings.{Saying}
use Rattle.pb_bank.specs.Tables.{jobs_text, amounts_parted, refusal_code, refusal_words, slots_text}
use Rattle.pb_json.specs.Strings.{string_text}

-- ---- parts of an object

-- `{"kind":"K"`
unfoldable pub kind_text : (kind : List ℕ) → List ℕ
kind_text kind = codes "{\"kind\":\"" ++ kind ++ codes "\""

-- `,"K":`, before the value of the key
unfoldable pub key_text : (key : List ℕ) → List ℕ
key_text key = codes ",\"" ++ key ++ codes "\":"

-- `,"K":"V"`
unfoldable pub string_member : (key value : List ℕ) → List ℕ
string_member key value = key_text key ++ string_text value

-- `,"K":N`
unfoldable pub number_member : (key : List ℕ) → (value : ℕ) → List ℕ
number_member key value = key_text key ++ decimal value

-- the end of an object
abbrev pub end_text : List ℕ
end_text = codes "}\n"

-- an object with no other member
abbrev pub lone_json : (kind : List ℕ) → List ℕ
lone_json kind = kind_text kind ++ end_text

-- an object with one string
abbrev pub string_json : (kind key value : List ℕ) → List ℕ
string_json kind key value = kind_text kind ++ string_member key value ++ end_text

-- ---- requests

-- an amount of a resource
unfoldable pub amount_json : NameTable → Pair → List ℕ
amount_json names pair =
    codes "{\"amount\":" ++ decimal pair.amount ++ string_member (codes "resource") (name_of names.resources pair.resource) ++ codes "}"

-- the same after a comma
abbrev pub next_json : NameTable → Pair → List ℕ
next_json names pair = codes "," ++ amount_json names pair

-- the amounts of a request, with commas between
unfoldable pub amounts_json : NameTable → List Pair → List ℕ
amounts_json names pairs = amounts_parted (amount_json names) (next_json names) pairs

-- the list of them
unfoldable pub list_json : NameTable → List Pair → List ℕ
list_json names pairs = codes "[" ++ amounts_json names pairs ++ codes "]"

-- a request: the job, and the list of amounts
abbrev pub request_json : (kind : List ℕ) → NameTable → Request → List ℕ
request_json kind names w =
    kind_text kind ++ string_member (codes "job") (name_of names.processes w.job) ++ key_text (codes "amounts")
    ++ list_json names w.bundle ++ end_text

-- ---- the state

-- how much there is of a resource
abbrev pub stock_json : NameTable → Stock → List ℕ
stock_json names stock =
    kind_text (codes "resource") ++ string_member (codes "resource") (name_of names.resources stock.resource)
    ++ number_member (codes "capital") stock.capital ++ number_member (codes "cash") stock.cash ++ end_text

-- what a job claims, holds and needs of a resource
abbrev pub share_json : NameTable → Share → List ℕ
share_json names share =
    kind_text (codes "job") ++ string_member (codes "job") (name_of names.processes share.job)
    ++ string_member (codes "resource") (name_of names.resources share.resource)
    ++ number_member (codes "claim") share.claim ++ number_member (codes "holds") share.holds
    ++ number_member (codes "needs") share.needs ++ end_text

-- ---- others

-- too little cash of a resource
abbrev pub cash_json : NameTable → (resource cash : ℕ) → List ℕ
cash_json names r cash =
    kind_text (codes "wait cash") ++ string_member (codes "resource") (name_of names.resources r)
    ++ number_member (codes "cash") cash ++ end_text

-- a job that lacks a resource
abbrev pub lack_json : NameTable → (job resource : ℕ) → List ℕ
lack_json names p r =
    kind_text (codes "lacks") ++ string_member (codes "job") (name_of names.processes p)
    ++ string_member (codes "resource") (name_of names.resources r) ++ end_text

-- a refusal about something: its code and its words
abbrev pub bank_refusal_json : (about : List ℕ) → Refusal → List ℕ
bank_refusal_json about refusal =
    kind_text (codes "refused") ++ string_member (codes "code") (refusal_code refusal)
    ++ string_member (codes "text") (refusal_words refusal ++ about) ++ end_text

-- a command of which a form is told
unfoldable pub form_json : (form : List ℕ) → List ℕ
form_json form = string_json (codes "line") (codes "text") form

-- a form of `order`
unfoldable pub order_form_json : (words : List ℕ) → List ℕ
order_form_json words = string_json (codes "order") (codes "text") words

-- the form of each command, an object for each, in four parts; the forms of `order` are of its kind
unfoldable pub first_forms : List ℕ
first_forms =
    form_json (codes "resource R K") ++ form_json (codes "job J K R, ..") ++ form_json (codes "ask J K R, ..")
    ++ form_json (codes "want J K R, ..")

unfoldable pub second_forms : List ℕ
second_forms =
    form_json (codes "drop J") ++ form_json (codes "give J K R, ..") ++ form_json (codes "leave J") ++ form_json (codes "capital R K")

unfoldable pub third_forms : List ℕ
third_forms = form_json (codes "claim J K R") ++ form_json (codes "why J K R, ..") ++ form_json (codes "hold J K R, ..")

unfoldable pub last_forms : List ℕ
last_forms = order_form_json [] ++ order_form_json (codes "J ..") ++ form_json (codes "state") ++ form_json (codes "help")

abbrev pub help_json : List ℕ
help_json = first_forms ++ second_forms ++ third_forms ++ last_forms

-- ---- all

-- the object of a thing that is about something; jobs have a space between
abbrev pub said_json : NameTable → (about : List ℕ) → Said → List ℕ
said_json names about (told.Granted w) = request_json (codes "granted") names w
said_json names about (told.Held w) = request_json (codes "held") names w
said_json names about (told.Wish w) = request_json (codes "wish") names w
said_json names about (told.OverClaim r) = string_json (codes "over claim") (codes "resource") (name_of names.resources r)
said_json names about (told.WaitCash r cash) = cash_json names r cash
said_json names about (told.WaitRest jobs) =
    string_json (codes "wait rest") (codes "text") (drop 1 (jobs_text names jobs.marks jobs.count))
said_json names about (told.Claimed jobs) = string_json (codes "claimed") (codes "text") (drop 1 (jobs_text names jobs.marks jobs.count))
said_json names about (told.Order slots) = string_json (codes "order") (codes "text") (drop 1 (slots_text names slots))
said_json names about (told.Lacks p r) = lack_json names p r
said_json names about (told.Twice p) = string_json (codes "twice") (codes "job") (name_of names.processes p)
said_json names about (told.Missing p) = string_json (codes "missing") (codes "job") (name_of names.processes p)
said_json names about (told.Resource stock) = stock_json names stock
said_json names about (told.Job share) = share_json names share
said_json names about told.Allowed = lone_json (codes "allowed")
said_json names about told.Queued = lone_json (codes "queued")
said_json names about told.Finishes = lone_json (codes "finishes")
said_json names about (told.Refused refusal) = bank_refusal_json about refusal
said_json names about told.Help = help_json
said_json names about told.Ready = lone_json (codes "ready")
said_json names about told.NoMemory = lone_json (codes "memory")

-- a thing as its object; the forms of the commands as an object for each
abbrev pub json_of : Saying → List ℕ
json_of s = said_json s.names s.about s.said
