-- No message has a number that is no integer.
use Rattle.std.proofs.Common.{◌≡◌, ℕ, List, Bool, true, false, not, cond, ◌||◌, codes, Option, None, Some, refl, subst}
use Rattle.serde_json.specs.Data.{Data, null, boolean, number, string, array, object}
use Rattle.serde_json.specs.Find.{get, is_float}
use Rattle.serde_json.specs.Written.{has_float}
use Rattle.pb_server.specs.Messages.{Called, heard_of, is_id, is_member, neither, request, response}

not_true : (b : Bool) → not b ≡ true → b ≡ false
not_true true is = cc
not_true false is = refl

-- the id of a request is none
pub id_free : (d : Data) → is_id d ≡ true → has_float d ≡ false
id_free null is = refl
id_free (boolean b) is = refl
id_free (number n) is = not_true (is_float n) is
id_free (string s) is = refl
id_free (array ds) is = cc
id_free (object ms) is = cc

id_if : (b : Bool) (i id : Data) (called call : Called) → is_id i ≡ b → cond b (request i called) neither ≡ request id call → is_id id ≡ true
id_if true i id called call e is = let same : i ≡ id = cc in subst (λ (d : Data). is_id d ≡ true) same e
id_if false i id called call e is = absurd cc

-- what has no method is no request
no_call : (b : Bool) (id : Data) (call : Called) → cond b response neither ≡ request id call → ⊥
no_call true id call is = cc
no_call false id call is = cc

-- only what is one is the id of a request
pub heard_id : (d : Data) (i : Option Data) (method : Option (List ℕ)) (params : Option Data) (id : Data) (call : Called)
    → heard_of d i method params ≡ request id call → is_id id ≡ true
heard_id d i None params id call is =
    absurd (no_call (is_member (get (codes "result") d) || is_member (get (codes "error") d)) id call is)
heard_id d None (Some method) params id call is = absurd cc
heard_id d (Some i) (Some method) params id call is = id_if (is_id i) i id (record { method = method; params = params }) call refl is
