-- What has been written of a process: its instructions as contracts see them, and how a writer grows. No
-- public contract cites this file.
use Rattle.std.specs.Prelude.{◌≡◌, ℕ, ◌+◌, ◌≤◌, List, ◌++◌, All, length, map, Option, slice_set}
use Rattle.pb_base.specs.declared.limits.TheConstants.{MAX_PLACES}
use Rattle.pb_code.specs.Code.{Instr}
use Rattle.pb_code.specs.Bundles.{Extends, NamesBelow}
use Rattle.pb_code.specs.View.{instr_view}
use Rattle.pb_generator.specs.declared.writer.Writer.{Writer}

-- the instructions so far
abbrev pub seen : Writer → List Instr
seen w = map (instr_view w.bundles.items) w.instrs.items

-- the place of the next instruction
abbrev pub place : Writer → ℕ
place w = length w.instrs.items

-- each instruction names a bundle that is there, and there are no more bundles than instructions
pub record IsSound (w : Writer) : Type 0 where
  pub named : All (NamesBelow (length w.bundles.items)) w.instrs.items
  pub few : length w.bundles.items ≤ place w

-- this code fits after what is written
pub record HasRoom (w : Writer) (code : List Instr) : Type 0 where
  pub sound : IsSound w
  pub small : place w + length code ≤ MAX_PLACES

-- code was written with its lines, after what was there
pub record Adds (old new : Writer) (code : List Instr) (lines : List (Option ℕ)) : Type 0 where
  pub coded : seen new ≡ seen old ++ code
  pub lined : new.lines.items ≡ old.lines.items ++ lines
  pub kept : Extends old.bundles.items new.bundles.items
  pub sound : IsSound new

-- another instruction is at a place, and nothing else changed
pub record Replaces (old new : Writer) (at : ℕ) (i : Instr) : Type 0 where
  pub coded : seen new ≡ slice_set (seen old) at i
  pub lined : new.lines.items ≡ old.lines.items
  pub kept : new.bundles.items ≡ old.bundles.items
  pub sound : IsSound new
