-- What a session may not say.
use Rattle.std.specs.Prelude.{ℕ, Bool, false, cond, ◌==◌, not, List, ◌++◌, take, codes, Option, Some, None}
use Rattle.std.specs.Str.{bytes_eq}
use Rattle.pb_base.specs.Lines.{line}
use Rattle.pb_bank.specs.Answers.{first_of, line_words}
use Rattle.pb_bank.specs.Desks.{place_of}
use Rattle.pb_bank.specs.Words.{words_of, trimmed}
use Rattle.pb_desk.specs.Services.{ServiceValue, owner_at}
use Rattle.pb_desk.specs.declared.refusal.Refusal.{Refusal}
use Rattle.pb_desk.specs.declared.refusal.Refusal.TheVariants.{OfAnother, OfOperators, NoSession, NotKept, Reserved}

-- the word that a line begins with, and the one after it
abbrev pub verb_of : List ℕ → List ℕ
verb_of line = first_of (words_of (trimmed line))

abbrev pub subject_of : List ℕ → List ℕ
subject_of line = first_of (line_words line)

-- the session whose job has this name, 0 if none has it
abbrev pub owner_by : ServiceValue → Option ℕ → ℕ
owner_by v None = 0
owner_by v (Some p) = owner_at v p

abbrev pub owner_of : ServiceValue → (name : List ℕ) → ℕ
owner_of v name = owner_by v (place_of v.desk.names.processes name)

-- this is neither nobody nor the session itself
abbrev pub is_another : (owner id : ℕ) → Bool
is_another owner id = cond (owner == 0) false (not (owner == id))

-- a job whose name begins so is the server's
abbrev pub is_reserved : List ℕ → Bool
is_reserved name = bytes_eq (take 6 name) (codes "-hole-")

-- why a session may not say a line, if it may not: resources are declared at the first start; the capital is changed by operators
-- alone; some names are the server's; and any other command is of its own jobs
abbrev pub refusal_of : ServiceValue → (id : ℕ) → (by_operator : Bool) → (line : List ℕ) → Option Refusal
refusal_of v id by_operator line =
    cond (bytes_eq (verb_of line) (codes "resource")) (Some OfOperators) (
    cond (bytes_eq (verb_of line) (codes "capital")) (cond by_operator None (Some OfOperators)) (
    cond (bytes_eq (verb_of line) (codes "job")) (cond (is_reserved (subject_of line)) (Some Reserved) None) (
    cond (is_another (owner_of v (subject_of line)) id) (Some OfAnother) None)))

-- ---- texts

-- the words of a refusal
abbrev pub words_of_refusal : Refusal → List ℕ
words_of_refusal OfAnother = codes "refused S3 the job belongs to another session"
words_of_refusal OfOperators = codes "refused S4 only an operator changes the capital, and resources are declared at the first start"
words_of_refusal NoSession = codes "refused S5 no such session, or not its key"
words_of_refusal NotKept = codes "refused S6 the answer to this request is no longer kept"
words_of_refusal Reserved = codes "refused S11 names that begin with -hole- are the server's"

-- the text of an answer that is a refusal
abbrev pub refusal_text : Refusal → List ℕ
refusal_text refusal = line (words_of_refusal refusal) ++ line (codes "ready")
