-- The first line of a page, said in the form of a voice.
use Rattle.std.proofs.Common.{◌≡◌, subst}
use Rattle.pb_options.specs.declared.code.Code.{Code}
use Rattle.pb_voice.specs.Held.{At, Held}
use Rattle.pb_voice.specs.Voices.{Adds, Breaks}
use Rattle.pb_voice.specs.declared.form.Form.{Form}
use Rattle.pb_explain.specs.Explanation.{Explanation}
use Rattle.pb_explain.specs.Pages.{title_in}

module _ (code : Code) (f g : Form) (entry other : Explanation) (a b : At Held) (form : f ≡ g) (same : entry ≡ other) where
  pub title_added : Adds a (title_in f code entry) b → Adds a (title_in g code other) b
  title_added added =
      subst (λ (h : Form). Adds a (title_in h code other) b) form (subst (λ (e : Explanation). Adds a (title_in f code e) b) same added)

  pub title_breaks : Breaks a (title_in f code entry) b → Breaks a (title_in g code other) b
  title_breaks breaks =
      subst (λ (h : Form). Breaks a (title_in h code other) b) form (subst (λ (e : Explanation). Breaks a (title_in f code e) b) same breaks)
