-- What a process is called, as plain data.
use Rattle.pb_joint.specs.Texts.{FullName}
use Rattle.pb_joint.specs.declared.texts.FullName.{FullName as Given}

-- what contracts see of it
abbrev pub full_name : Given → FullName
full_name called = record { name = called.name.items; text = called.text }
