-- What there is to say of the warnings of texts that are accepted.
use Rattle.std.specs.Prelude.{◌++◌, ℕ, List, Some, codes}
use Rattle.pb_explain.specs.Explanation.{Explanation, Text}

-- what the example of W1 reads
abbrev pub w1-input : List ℕ
w1-input =
    codes "process p\n"
    ++ codes "begin\n"
    ++ codes "  parbegin\n"
    ++ codes "    begin print 1; print 2 end\n"
    ++ codes "  parend\n"
    ++ codes "end\n"

-- what there is to say of W1
abbrev pub w1-entry : Explanation
w1-entry = record {
  summary = codes "a parbegin of one arm";
  meaning =
      codes "The parbegin on this line has one arm, so that nothing runs beside it. Statements\n"
      ++ codes "between `begin` and `end` are one arm, and run one after another.";
  example = Some (record {
    command = codes "check --warn";
    input = Text w1-input;
    answer =
        codes "ok\n"
        ++ codes "warning W1 line 3";
  });
  mend =
      codes "Leave out the `begin` and the `end` round statements that are to run side by side:\n"
      ++ codes "in a parbegin each statement is an arm. If there is to be one arm, leave out\n"
      ++ codes "`parbegin` and `parend`.";
}

-- what the example of W2 reads
abbrev pub w2-input : List ℕ
w2-input =
    codes "process p\n"
    ++ codes "begin\n"
    ++ codes "  integer count, total;\n"
    ++ codes "  count := 1;\n"
    ++ codes "  total := count\n"
    ++ codes "end\n"

-- what there is to say of W2
abbrev pub w2-entry : Explanation
w2-entry = record {
  summary = codes "an integer that is never read";
  meaning =
      codes "The integer that is declared on this line is in no expression of its process, which\n"
      ++ codes "at most assigns to it. The line has the process and the integer.";
  example = Some (record {
    command = codes "check --warn";
    input = Text w2-input;
    answer =
        codes "ok\n"
        ++ codes "warning W2 line 3 p total";
  });
  mend =
      codes "Print it or test it, or leave it out. Maybe another integer is written where this\n"
      ++ codes "one is meant.";
}

-- what the example of W3 reads
abbrev pub w3-input : List ℕ
w3-input =
    codes "resource tape = 5;\n"
    ++ codes "process p begin hold 2 of tape do print 1 od end\n"
    ++ codes "process q begin hold 1 of tape do print 2 od end\n"

-- what there is to say of W3
abbrev pub w3-entry : Explanation
w3-entry = record {
  summary = codes "a capital that cannot be used";
  meaning =
      codes "There is more of the resource that is declared on this line than the claims of all\n"
      ++ codes "processes on it add up to. So some of it is never lent, and no request waits for it.\n"
      ++ codes "The line has the resource, all claims together and the capital.";
  example = Some (record {
    command = codes "check --warn";
    input = Text w3-input;
    answer =
        codes "ok\n"
        ++ codes "warning W3 line 1 tape claims 3 capital 5";
  });
  mend =
      codes "Lower the capital. `claims` shows the claim of each process, and a hold may be\n"
      ++ codes "missing or may be for too little.";
}
