-- What the words of a request say.
use Rattle.std.specs.Prelude.{ℕ, ◌+◌, ◌*◌, Bool, true, false, cond, ◌&&◌, not, nat_lt, ◌==◌, List, [], ◌∷◌, ◌++◌, length}
use Rattle.std.specs.Prelude.{Option, Some, None, Result, Ok, Err}
use Rattle.pb_base.specs.declared.limits.TheConstants.{MAX_PAIRS}
use Rattle.pb_base.specs.declared.pair.Pair.{Pair}
use Rattle.pb_bank.specs.declared.refusal.Refusal.{Refusal}
use Rattle.pb_bank.specs.declared.refusal.Refusal.TheVariants.{Command, NoComma, Amount, NoResource, NoJob, Twice}
use Rattle.pb_bank.specs.declared.request.Request.{Request}
use Rattle.pb_bank.specs.Desks.{DeskValue, place_of, job_of}
use Rattle.pb_bank.specs.Words.{amount_of, is_comma}

-- an amount and the name of a resource, which are the two words after that with this number
abbrev pub pair_from : (at : ℕ) → Option ℕ → Option ℕ → Result Pair Refusal
pair_from at None place = Err (Amount (at + 1))
pair_from at (Some amount) None = Err (NoResource (at + 2))
pair_from at (Some amount) (Some r) = Ok (record { resource = r; amount = amount })

-- so it is by their words
abbrev pub pair_of : (names : List (List ℕ)) → (at : ℕ) → (amount resource : List ℕ) → Result Pair Refusal
pair_of names at amount resource = pair_from at (amount_of amount) (place_of names resource)

-- the number of the word after so many pairs, where a comma belongs: words are counted from 0 after the command, and the
-- first is the job, which is before the first pair
abbrev pub comma_place : List Pair → ℕ
comma_place pairs = 3 * length pairs

-- one of the pairs is of this resource
abbrev pub has_resource : List Pair → ℕ → Bool
has_resource [] r = false
has_resource (pair ∷ pairs) r = cond (pair.resource == r) true (has_resource pairs r)

-- the resource of the pair is not named yet
abbrev pub is_new : List Pair → Pair → Bool
is_new pairs pair = not (has_resource pairs pair.resource) && nat_lt (length pairs) MAX_PAIRS

-- goes on with a pair; a refusal stays
abbrev pub on_pair : Result Pair Refusal → (Pair → Result (List Pair) Refusal) → Result (List Pair) Refusal
on_pair (Err refusal) next = Err refusal
on_pair (Ok pair) next = next pair

-- a comma after which no pair is; or another word in its place
abbrev pub no_pair : List Pair → (comma : List ℕ) → Result (List Pair) Refusal
no_pair pairs comma = cond (is_comma comma) (Err Command) (Err (NoComma (comma_place pairs)))

-- further pairs after some: a comma before each, and no resource twice
abbrev pub pairs_after : (names : List (List ℕ)) → List Pair → List (List ℕ) → Result (List Pair) Refusal
pairs_after names pairs [] = Ok pairs
pairs_after names pairs (comma ∷ []) = no_pair pairs comma
pairs_after names pairs (comma ∷ amount ∷ []) = no_pair pairs comma
pairs_after names pairs (comma ∷ amount ∷ resource ∷ rest) =
    cond (is_comma comma)
    (on_pair (pair_of names (comma_place pairs) amount resource)
    (λ pair. cond (is_new pairs pair) (pairs_after names (pairs ++ pair ∷ []) rest) (Err (Twice pair.resource))))
    (Err (NoComma (comma_place pairs)))

-- the pairs that words say: `K R`, or several with commas between
unfoldable pub pairs_of : (names : List (List ℕ)) → List (List ℕ) → Result (List Pair) Refusal
pairs_of names [] = Err Command
pairs_of names (amount ∷ []) = Err Command
pairs_of names (amount ∷ resource ∷ rest) =
    on_pair (pair_of names (comma_place []) amount resource) (λ pair. pairs_after names (pair ∷ []) rest)

-- a job, and what it asks for
abbrev pub request_from : Option ℕ → Result (List Pair) Refusal → Result Request Refusal
request_from None pairs = Err (NoJob 0)
request_from (Some job) (Err refusal) = Err refusal
request_from (Some job) (Ok pairs) = Ok (record { job = job; bundle = pairs })

-- what words say: a job, and pairs
unfoldable pub request_of : DeskValue → List (List ℕ) → Result Request Refusal
request_of d [] = Err Command
request_of d (job ∷ words) = request_from (job_of d job) (pairs_of d.names.resources words)
