-- What there is to say of the refusals of pick lines, of picks, and of commands of a session.
use Rattle.std.specs.Prelude.{◌++◌, ℕ, List, Some, codes}
use Rattle.pb_explain.specs.Explanation.{Explanation, Text}

-- what the example of K1 reads
abbrev pub k1-input : List ℕ
k1-input =
    codes "process p begin print 1 end\n"
    ++ codes "%%\n"
    ++ codes "p.1 1\n"

-- what there is to say of K1
abbrev pub k1-entry : Explanation
k1-entry = record {
  summary = codes "a pick line that is not of its form";
  meaning =
      codes "A pick line is `P.a COUNT`: the name of a process, a point, the number of one of its\n"
      ++ codes "arms, a space, and how often the pick is made, from 1 to 10,000,000. This one is not\n"
      ++ codes "of this form, or names a process or an arm that is not there. The offset is that of\n"
      ++ codes "the line, counted from after the line `%%`. `outcomes --expect` reads print lines\n"
      ++ codes "there, `P.a print V`, and refuses them so.";
  example = Some (record {
    command = codes "replay";
    input = Text k1-input;
    answer = codes "refused K1 at 0";
  });
  mend =
      codes "The arms of a process have numbers in the order of the text, from 0, which is its\n"
      ++ codes "body. Nothing but pick lines may follow the line `%%`, no empty line either.";
}

-- what the example of K2 reads
abbrev pub k2-input : List ℕ
k2-input =
    codes "process p begin print 1 end\n"
    ++ codes "%%\n"
    ++ codes "p.0 10000000\n"
    ++ codes "p.0 1\n"

-- what there is to say of K2
abbrev pub k2-entry : Explanation
k2-entry = record {
  summary = codes "too many picks";
  meaning = codes "The counts of the pick lines are more than 10,000,000 in all.";
  example = Some (record {
    command = codes "replay";
    input = Text k2-input;
    answer = codes "refused K2";
  });
  mend = codes "Make fewer picks: record a shorter run, by `--steps`.";
}

-- what the example of H1 reads
abbrev pub h1-input : List ℕ
h1-input =
    codes "resource tape = 1;\n"
    ++ codes "resource disk = 1;\n"
    ++ codes "process a\n"
    ++ codes "begin\n"
    ++ codes "  hold 1 of tape do hold 1 of disk do print 1 od od\n"
    ++ codes "end\n"
    ++ codes "process b\n"
    ++ codes "begin\n"
    ++ codes "  hold 1 of disk do hold 1 of tape do print 2 od od\n"
    ++ codes "end\n"
    ++ codes "%%\n"
    ++ codes "a.0 1\n"
    ++ codes "b.0 1\n"

-- what there is to say of H1
abbrev pub h1-entry : Explanation
h1-entry = record {
  summary = codes "a pick that is not enabled";
  meaning =
      codes "The pick with this number, counted from 0, cannot be made: its arm has not been\n"
      ++ codes "started or has ended, its process has ended or faulted, it waits at the `parend` for\n"
      ++ codes "its arms, or it asks for something that the banker refuses. In the example tape and\n"
      ++ codes "disk are lent in opposite order: `b` would keep `a` waiting, and `a` would keep `b`\n"
      ++ codes "waiting.";
  example = Some (record {
    command = codes "replay";
    input = Text h1-input;
    answer = codes "refused H1 at 1";
  });
  mend =
      codes "Leave the pick out, or make others before it. In `debug`, over the picks before this\n"
      ++ codes "one, `why` says why an arm does not go on.";
}

-- what the example of G1 reads
abbrev pub g1-input : List ℕ
g1-input =
    codes "process p begin print 1 end\n"
    ++ codes "%%\n"
    ++ codes "p.0 2\n"
    ++ codes "%%\n"
    ++ codes "to 3\n"

-- what there is to say of G1
abbrev pub g1-entry : Explanation
g1-entry = record {
  summary = codes "no such position";
  meaning =
      codes "The command of `debug` would go before position 0, or after the last pick; or it is\n"
      ++ codes "`pick`, at another position than the last, or after 10,000,000 picks.";
  example = Some (record {
    command = codes "debug";
    input = Text g1-input;
    answer = codes "refused G1";
  });
  mend =
      codes "Positions go from 0 to the number of the picks. `next` and `prev` go to the events\n"
      ++ codes "that there are.";
}

-- what the example of G2 reads
abbrev pub g2-input : List ℕ
g2-input =
    codes "process p begin print 1 end\n"
    ++ codes "%%\n"
    ++ codes "%%\n"
    ++ codes "vars q\n"

-- what there is to say of G2
abbrev pub g2-entry : Explanation
g2-entry = record {
  summary = codes "no process of this name";
  meaning = codes "The command of `debug` names a process that the program does not have.";
  example = Some (record {
    command = codes "debug";
    input = Text g2-input;
    answer = codes "refused G2";
  });
  mend =
      codes "`loans` has the names of all processes, if there is a resource; else look at the\n"
      ++ codes "text. Capital letters count.";
}

-- what the example of G3 reads
abbrev pub g3-input : List ℕ
g3-input =
    codes "process p begin print 1 end\n"
    ++ codes "%%\n"
    ++ codes "%%\n"
    ++ codes "line p.1\n"

-- what there is to say of G3
abbrev pub g3-entry : Explanation
g3-entry = record {
  summary = codes "no such arm";
  meaning = codes "The command of `debug` names an arm that its process does not have.";
  example = Some (record {
    command = codes "debug";
    input = Text g3-input;
    answer = codes "refused G3";
  });
  mend = codes "`threads P` lists the arms of process P. Arm 0 is its body.";
}

-- what the example of G4 reads
abbrev pub g4-input : List ℕ
g4-input =
    codes "process p begin print 1 end\n"
    ++ codes "%%\n"
    ++ codes "%%\n"
    ++ codes "jump 3\n"

-- what there is to say of G4
abbrev pub g4-entry : Explanation
g4-entry = record {
  summary = codes "not a command";
  meaning =
      codes "The line is not a command of `debug`, or it names an integer that the process does\n"
      ++ codes "not have. Commands have single spaces, and numbers of at most eight digits.";
  example = Some (record {
    command = codes "debug";
    input = Text g4-input;
    answer = codes "refused G4";
  });
  mend = codes "`help` lists the forms of all commands, and `vars P` the integers of process P.";
}
