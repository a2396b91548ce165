-- What is found for a request, and the response with it.
use Rattle.std.specs.Prelude.{◌≡◌, ℕ, List, false}
use Rattle.serde_json.specs.Data.{Data}
use Rattle.serde_json.specs.View.{view}
use Rattle.serde_json.specs.Written.{has_float}
use Rattle.pb_server.specs.Responses.{error_data, result_data}
use Rattle.pb_server.specs.declared.found.Found.{Found as Given}
use Rattle.pb_server.specs.declared.found.Found.TheVariants as given
use Rattle.pb_server.specs.declared.response.Fault.TheVariants as faults

-- a result, or why there can be none
pub data FoundData : Type 0 where
  result : Data → FoundData
  refused : (message : List ℕ) → FoundData

-- what contracts see of what is found
abbrev pub found_view : Given → FoundData
found_view (given.Result value) = result (view value)
found_view (given.Refused message) = refused message.now

-- the response to a request for which this is found
abbrev pub response_data : (id : Data) → FoundData → Data
response_data id (result d) = result_data id d
response_data id (refused message) = error_data id faults.RequestFailed message

-- no number in it is a fraction
abbrev pub IsFree : FoundData → Type 0
IsFree (result d) = has_float d ≡ false
IsFree (refused message) = Unit {0}
