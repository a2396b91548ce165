-- What there is to say of the refusals of texts by their names, amounts and claims, and of what the first
-- format of objects cannot have.
use Rattle.std.specs.Prelude.{◌++◌, ℕ, List, Some, codes}
use Rattle.pb_explain.specs.Explanation.{Explanation, Text}

-- what the example of N1 reads
abbrev pub n1-input : List ℕ
n1-input =
    codes "process p\n"
    ++ codes "begin\n"
    ++ codes "  parbegin\n"
    ++ codes "    skip; skip; skip; skip; skip; skip; skip; skip; skip;\n"
    ++ codes "    skip; skip; skip; skip; skip; skip; skip; skip\n"
    ++ codes "  parend\n"
    ++ codes "end\n"

-- what there is to say of N1
abbrev pub n1-entry : Explanation
n1-entry = record {
  summary = codes "too many of a kind";
  meaning =
      codes "The word after N1 says of what: over 64 `processes`, over 16 `resources`, over\n"
      ++ codes "64 `integers` in a process, over 16 arms in one parbegin (`fork`), or over 64\n"
      ++ codes "`arms` in a process, where its body counts as one.";
  example = Some (record {
    command = codes "check";
    input = Text n1-input;
    answer = codes "refused N1 fork";
  });
  mend =
      codes "Let one process do the work of several in a loop, let one arm do the work of\n"
      ++ codes "several between `begin` and `end`, or use an integer again.";
}

-- what the example of N2 reads
abbrev pub n2-input : List ℕ
n2-input =
    codes "process p\n"
    ++ codes "begin\n"
    ++ codes "  integer x, y, x;\n"
    ++ codes "  skip\n"
    ++ codes "end\n"

-- what there is to say of N2
abbrev pub n2-entry : Explanation
n2-entry = record {
  summary = codes "a name that is declared twice";
  meaning =
      codes "Two resources, two processes, or two integers of one process have the same name.\n"
      ++ codes "The offset is that of the second declaration.";
  example = Some (record {
    command = codes "check";
    input = Text n2-input;
    answer = codes "refused N2 at 32";
  });
  mend =
      codes "Rename one of the two. Integers of different processes may share a name, and so\n"
      ++ codes "may an integer, a resource and a process.";
}

-- what the example of N3 reads
abbrev pub n3-input : List ℕ
n3-input =
    codes "process p\n"
    ++ codes "begin\n"
    ++ codes "  x := 1\n"
    ++ codes "end\n"

-- what there is to say of N3
abbrev pub n3-entry : Explanation
n3-entry = record {
  summary = codes "a name that is not declared";
  meaning =
      codes "The name at this offset is used as an integer or as a resource, and its process has\n"
      ++ codes "no such integer, or the program no such resource. Capital letters count, and the\n"
      ++ codes "integers of another process cannot be used.";
  example = Some (record {
    command = codes "check";
    input = Text n3-input;
    answer = codes "refused N3 at 18";
  });
  mend =
      codes "Declare it: an integer right after the `begin` of its process, as in\n"
      ++ codes "`integer x;`, and a resource before the first process, as in\n"
      ++ codes "`resource tape = 2;`.";
}

-- what the example of N4 reads
abbrev pub n4-input : List ℕ
n4-input =
    codes "resource tape = 2;\n"
    ++ codes "process p\n"
    ++ codes "begin\n"
    ++ codes "  hold 0 of tape do skip od\n"
    ++ codes "end\n"

-- what there is to say of N4
abbrev pub n4-entry : Explanation
n4-entry = record {
  summary = codes "an amount that is out of range";
  meaning =
      codes "There are 0 to 1,000,000 of a resource, and a hold has 1 to 1,000,000 of each of\n"
      ++ codes "its resources. The offset is that of the number.";
  example = Some (record {
    command = codes "check";
    input = Text n4-input;
    answer = codes "refused N4 at 42";
  });
  mend =
      codes "Write an amount within these limits. A hold of nothing is left out, with its `do`\n"
      ++ codes "and `od`.";
}

-- what the example of N6 reads
abbrev pub n6-input : List ℕ
n6-input =
    codes "resource tape = 2;\n"
    ++ codes "process p\n"
    ++ codes "begin\n"
    ++ codes "  hold 1 of tape, 1 of tape do skip od\n"
    ++ codes "end\n"

-- what there is to say of N6
abbrev pub n6-entry : Explanation
n6-entry = record {
  summary = codes "a resource that is named twice in a hold";
  meaning =
      codes "A hold names each of its resources once, with the whole amount. The offset is that\n"
      ++ codes "of the second name.";
  example = Some (record {
    command = codes "check";
    input = Text n6-input;
    answer = codes "refused N6 at 58";
  });
  mend = codes "Add the amounts, as in `hold 2 of tape do`.";
}

-- what the example of C1 reads
abbrev pub c1-input : List ℕ
c1-input =
    codes "resource tape = 1;\n"
    ++ codes "process p\n"
    ++ codes "begin\n"
    ++ codes "  hold 1 of tape do\n"
    ++ codes "    hold 1 of tape do skip od\n"
    ++ codes "  od\n"
    ++ codes "end\n"

-- what there is to say of C1
abbrev pub c1-entry : Explanation
c1-entry = record {
  summary = codes "a claim over the capital";
  meaning =
      codes "The claim of a process is the most of a resource that it may ever hold, read off\n"
      ++ codes "its text. This one is more than there is, so that the banker could not promise\n"
      ++ codes "that it is ever lent. Holds inside one another add up, and so do those of arms\n"
      ++ codes "that run side by side. The line has the process, the resource, its claim and the\n"
      ++ codes "capital, which is what there is of the resource.";
  example = Some (record {
    command = codes "check";
    input = Text c1-input;
    answer = codes "refused C1 p tape claim 2 capital 1";
  });
  mend =
      codes "Hold less, end one hold before the next begins, or raise the capital. `claims`\n"
      ++ codes "shows the claims of all processes, whatever the capital is.";
}

-- what the example of E1 reads
abbrev pub e1-input : List ℕ
e1-input =
    codes "resource tape = 1;\n"
    ++ codes "resource disk = 1;\n"
    ++ codes "process p\n"
    ++ codes "begin\n"
    ++ codes "  hold 1 of tape, 1 of disk do skip od\n"
    ++ codes "end\n"

-- what there is to say of E1
abbrev pub e1-entry : Explanation
e1-entry = record {
  summary = codes "an object that the first format cannot have";
  meaning =
      codes "Only `emit --object 1` writes this: in the first format of objects a `take` has\n"
      ++ codes "one resource, and there are at most 32 processes.";
  example = Some (record {
    command = codes "emit --object 1";
    input = Text e1-input;
    answer = codes "refused E1";
  });
  mend =
      codes "Write the object in the second format, by `emit` alone, or use a hold inside a\n"
      ++ codes "hold, one for each resource.";
}
