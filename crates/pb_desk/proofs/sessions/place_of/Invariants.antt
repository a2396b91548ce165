use Rattle.std.proofs.Common.{◌≡◌, drop}
use Rattle.pb_desk.specs.Sessions.{session_place}
use Rattle.pb_desk.proofs.sessions.place_of.Given as goal

abbrev pub invariant-loop-i : goal.invariant-loop-i
invariant-loop-i l = session_place 0 l.sessions l.id ≡ session_place l.i (drop l.i l.sessions) l.id
