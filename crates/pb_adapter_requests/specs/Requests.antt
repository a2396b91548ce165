-- The requests of a client.
use Rattle.std.specs.Prelude.{ℕ, ◌-◌, ◌/◌, ◌%◌, nat_eq, cond, Bool, true, false, List, Option, Some, None, option_map, option_and_then, codes}
use Rattle.std.specs.Str.{bytes_eq}
use Rattle.serde_json.specs.Data.{Data, Items, null, boolean, number, string, array, object}
use Rattle.serde_json.specs.Find.{get, as_array, as_number, as_str, as_u64}
use Rattle.serde_json.specs.View.{view}
use Rattle.pb_adapter_requests.specs.declared.request.Request.{Request}

-- the number, or the text, that a member of an object is
abbrev pub number_in : List ℕ → Data → Option ℕ
number_in name d = option_and_then as_u64 (option_and_then as_number (get name d))

abbrev pub text_in : List ℕ → Data → Option (List ℕ)
text_in name d = option_and_then as_str (get name d)

-- a request: its number, what it asks for, and the arguments, if it has some
pub record Asked : Type 0 where
  pub seq : ℕ
  pub command : List ℕ
  pub arguments : Option Data

-- what a contract sees of a request
abbrev pub request_view : Request → Asked
request_view r = record {
  seq = r.seq;
  command = r.command.now;
  arguments = option_map (λ v. view v.now) r.arguments;
}

-- the request that a message is, if it has a number and says what it asks for
abbrev pub asked : Data → Option ℕ → Option (List ℕ) → Option Asked
asked d None command = None
asked d (Some seq) None = None
asked d (Some seq) (Some command) =
    Some (record { seq = seq; command = command; arguments = get (codes "arguments") d })

-- whether a text is this word
abbrev pub is_word : (word : List ℕ) → Option (List ℕ) → Bool
is_word word None = false
is_word word (Some text) = bytes_eq text word

-- whether a message says that it is a request; one that does not say what it is may be one
abbrev pub is_request_type : Option Data → Bool
is_request_type None = true
is_request_type (Some said) = is_word (codes "request") (as_str said)

abbrev pub may_be_request : Data → Bool
may_be_request d = is_request_type (get (codes "type") d)

-- the request that a message is, if it is one
abbrev pub request_in : Data → Option Asked
request_in d = cond (may_be_request d) (asked d (number_in (codes "seq") d) (text_in (codes "command") d)) None

-- the number, the text, and the list, that an argument of a request is
abbrev pub number_of : List ℕ → Asked → Option ℕ
number_of name r = option_and_then (number_in name) r.arguments

abbrev pub text_of : List ℕ → Asked → Option (List ℕ)
text_of name r = option_and_then (text_in name) r.arguments

abbrev pub items_asked : List ℕ → Asked → Option Items
items_asked name r = option_and_then (λ d. option_and_then as_array (get name d)) r.arguments

-- an argument of a request
abbrev pub argument : List ℕ → Asked → Option Data
argument name r = option_and_then (get name) r.arguments

-- whether an argument is there, and is not null
abbrev pub is_there : Option Data → Bool
is_there None = false
is_there (Some null) = false
is_there (Some (boolean b)) = true
is_there (Some (number n)) = true
is_there (Some (string s)) = true
is_there (Some (array ds)) = true
is_there (Some (object ms)) = true

abbrev pub is_given : List ℕ → Asked → Bool
is_given name r = is_there (argument name r)

-- the arm of a process that the number of a thread means: 64 for each process, counted from 1. A request without
-- a number means an arm of process 64, which no program has
pub record Place : Type 0 where
  pub process : ℕ
  pub arm : ℕ

-- the arm that is meant without a number
abbrev pub no_place : Place
no_place = record { process = 64; arm = 0 }

-- the arm that the number of a thread means
abbrev pub place_of : Option ℕ → Place
place_of None = no_place
place_of (Some n) = cond (nat_eq n 0) no_place (record { process = (n - 1) / 64; arm = (n - 1) % 64 })
