-- A text with the picks of a run after it, as objects of JSON.
use Rattle.std.specs.Prelude.{ℕ, List, [], ◌∷◌, ◌++◌, codes}
use Rattle.std.specs.Fmt.{decimal}
use Rattle.std.specs.List.{concat, flat_map}
use Rattle.pb_base.specs.Lines.{NameTable, name_of}
use Rattle.pb_history.specs.declared.counted.CountedPick.{CountedPick}
use Rattle.pb_json.specs.Strings.{string_text}
use Rattle.pb_voice.specs.Texts.{lines_json}

-- a pick with its count
abbrev pub pick_json : NameTable → CountedPick → List ℕ
pick_json names c = concat (
    codes "{\"kind\":\"picks\",\"process\":" ∷ string_text (name_of names.processes c.pick.process) ∷ codes ",\"arm\":"
    ∷ decimal c.pick.arm ∷ codes ",\"count\":" ∷ decimal c.count ∷ codes "}\n" ∷ [])

-- one for each line of the text, one that picks follow, and one for each pick
abbrev pub recorded_json : (text : List ℕ) → NameTable → List CountedPick → List ℕ
recorded_json text names picks =
    lines_json (codes "source") text ++ (codes "{\"kind\":\"picks follow\"}\n" ++ flat_map (pick_json names) picks)
