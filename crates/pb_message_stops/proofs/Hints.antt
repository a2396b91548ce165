-- What wordings go on telling.
use Rattle.std.proofs.Common.{◌∙◌, Option, None, Some, IfSome, IsTrue, ℕ, List}
use Rattle.pb_message_stops.specs.Told.{TellsMade}
use Rattle.pb_message_stops.specs.declared.stops.Stop.{Stop}
use Rattle.pb_mistakes.specs.Wordings.{Keeps}
use Rattle.pb_mistakes.specs.declared.wording.Wording.{Wording}

-- what holds of something that may be there
pub some_too : {X : Type 0} (P Q : X → Type 0) (found : Option X) → ((x : X) → P x → Q x) → IfSome found P → IfSome found Q
some_too P Q (Some x) leads holds = leads x holds
some_too P Q None leads holds = holds

-- a wording goes on telling how many picks were made
pub made_too : (stop : Stop) (old new : Wording) → Keeps old new → (IsTrue old.is_whole → TellsMade stop old)
    → IsTrue new.is_whole → TellsMade stop new
made_too stop old new keeps tells whole =
    let kept = keeps whole in
    let told = tells kept.0 in
    record {
      arm = told.arm;
      summary = kept.1 ∙ told.summary;
      made = λ several. kept.3 _ (told.made several);
    }
