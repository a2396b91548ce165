-- What a finding is filed under.
use Rattle.std.specs.Prelude.{ℕ, List, codes}
use Rattle.pb_explain.specs.Entries.{entry_of}
use Rattle.pb_findings.specs.declared.rule.Rule.{Rule}
use Rattle.pb_findings.specs.declared.rule.Rule.TheVariants as rule
use Rattle.pb_options.specs.Codes.{code_name}

-- its word: a code as it stands in the line of a refusal or a warning, or `memory`
abbrev pub rule_name : Rule → List ℕ
rule_name (rule.Code code) = code_name code
rule_name rule.Memory = codes "memory"

-- its meaning in a few words, as `explain` has it of a code
abbrev pub rule_summary : Rule → List ℕ
rule_summary (rule.Code code) = (entry_of code).summary
rule_summary rule.Memory = codes "memory"
