-- Replies that are told.
use Rattle.std.proofs.Common.{◌≡◌, ℕ, List, [], Option, Some, None, Result, Ok, Err, IfOk, IfSome, OnErr, inl, refl, subst, sym}
use Rattle.pb_base.specs.Device.{appended}
use Rattle.pb_command_io.specs.Answers.{Says, Tells, memory_line}
use Rattle.pb_command_io.specs.declared.reply.Reply.{Reply}
use Rattle.pb_command_io.specs.declared.status.Status.{Status}
use Rattle.pb_command_io.specs.declared.status.Status.TheVariants.{Device, Memory}
use Rattle.std.proofs.Common.{ap, append-nil}

-- what holds of each value of a result
pub if_ok : {T E : Type 0} {P Q : T → Type 0} (r : Result T E) → ((x : T) → P x → Q x) → IfOk r P → IfOk r Q
if_ok (Ok x) f p = f x p
if_ok (Err e) f p = tt

-- what holds of each value that there may be
pub if_some : {P Q : List ℕ → Type 0} (r : Option (List ℕ)) → ((x : List ℕ) → P x → Q x) → IfSome r P → IfSome r Q
if_some (Some x) f p = f x p
if_some None f p = tt

pub all_some : {Q : List ℕ → Type 0} (r : Option (List ℕ)) → ((x : List ℕ) → Q x) → IfSome r Q
all_some (Some x) f = f x
all_some None f = tt

pub if_read : (Q : List ℕ → Type 0) (r : Option (List ℕ)) (items : List ℕ) → IfSome r (λ bytes. items ≡ bytes) → Q items → IfSome r Q
if_read Q (Some bytes) items is q = subst Q is q
if_read Q None items is q = tt

-- a text and a status that are the same as others
pub says_same : (SaysOf : List ℕ → Status → Type 0) (text text' : List ℕ) (given given' : Status) → text' ≡ text → given' ≡ given
    → SaysOf text given → SaysOf text' given'
says_same SaysOf text text' given given' texts statuses says =
    subst (λ (t : List ℕ). SaysOf t given') (sym texts) (subst (λ (s : Status). SaysOf text s) (sym statuses) says)

-- a reply that is told, or that there was no memory for it
pub tells_reply : {E : Type 0} (SaysOf : List ℕ → Status → Type 0) (old new : Option (List ℕ)) (reply : Result Reply E) (answered : Status)
    → IfOk reply (λ r. SaysOf r.text.items r.status) → SaysOf memory_line Memory
    → IfOk reply (λ r. Says old new r.text.items r.status answered) → OnErr reply (Says old new memory_line Memory answered)
    → Tells SaysOf old new answered
tells_reply SaysOf old new (Ok r) answered says memory told none = (r.text.items, r.status, says, told)
tells_reply SaysOf old new (Err e) answered says memory told none = (memory_line, Memory, memory, none)

nothing_added : (w : Option (List ℕ)) → w ≡ appended w []
nothing_added None = refl
nothing_added (Some text) = ap Some (sym (append-nil text))

-- nothing is told if a device fails
pub tells_nothing : (SaysOf : List ℕ → Status → Type 0) (old : Option (List ℕ)) → SaysOf [] Device → Tells SaysOf old old Device
tells_nothing SaysOf old says = ([], Device, says, inl (nothing_added old, refl))
