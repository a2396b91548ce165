-- What there is to say of the refusals of objects, by their text and by their code.
use Rattle.std.specs.Prelude.{◌++◌, ℕ, List, Some, None, codes}
use Rattle.pb_explain.specs.Explanation.{Explanation, Text}

-- what the example of O1 reads
abbrev pub o1-input : List ℕ
o1-input =
    codes "PBO 2\n"
    ++ codes "resources none\n"

-- what there is to say of O1
abbrev pub o1-entry : Explanation
o1-entry = record {
  summary = codes "a line of an object that is not of its form";
  meaning =
      codes "The line that begins at this offset is not the line that an object has there, is\n"
      ++ codes "not ended by a line feed, is missing, or comes after the end. Each object has one\n"
      ++ codes "spelling: single spaces, and no zeros before a number.";
  example = Some (record {
    command = codes "exec";
    input = Text o1-input;
    answer = codes "refused O1 at 6";
  });
  mend =
      codes "Let `emit` write objects, and `migrate` write those of the first format anew. If\n"
      ++ codes "an object was changed by hand, look at this line: docs/FORMATS.md, \"Object text\",\n"
      ++ codes "has the form of each.";
}

-- what the example of O2 reads
abbrev pub o2-input : List ℕ
o2-input =
    codes "PBO 2\n"
    ++ codes "resources 17\n"

-- what there is to say of O2
abbrev pub o2-entry : Explanation
o2-entry = record {
  summary = codes "a number of an object that is out of range";
  meaning =
      codes "The line that begins at this offset has its form, and a number in it is out of\n"
      ++ codes "range: an object has at most 16 resources and 64 processes, and a process at most\n"
      ++ codes "64 integers, 64 arms and 40,000 instructions. At 0 it also says that the object is\n"
      ++ codes "over 4,194,304 bytes.";
  example = Some (record {
    command = codes "exec";
    input = Text o2-input;
    answer = codes "refused O2 at 6";
  });
  mend =
      codes "Let `emit` write objects. The ranges of all numbers are in docs/FORMATS.md, \"Object\n"
      ++ codes "text\".";
}

-- what the example of V1 reads
abbrev pub v1-input : List ℕ
v1-input =
    codes "PBO 2\n"
    ++ codes "resources 0\n"
    ++ codes "processes 1\n"
    ++ codes "process p\n"
    ++ codes "vars 0\n"
    ++ codes "arms 1\n"
    ++ codes "claims\n"
    ++ codes "arm 0\n"
    ++ codes "code 2\n"
    ++ codes "0 push 1\n"
    ++ codes "0 print\n"

-- what there is to say of V1
abbrev pub v1-entry : Explanation
v1-entry = record {
  summary = codes "arms that are not sound";
  meaning =
      codes "Arm 0 does not begin at place 0, the places at which arms begin do not rise, a jump\n"
      ++ codes "leaves its arm, or the last instruction of an arm is neither `end` nor `jump`.";
  example = Some (record {
    command = codes "exec";
    input = Text v1-input;
    answer = codes "refused V1";
  });
  mend = codes "End each arm with `end`, and let jumps stay within the places of their arm.";
}

-- what the example of V2 reads
abbrev pub v2-input : List ℕ
v2-input =
    codes "PBO 2\n"
    ++ codes "resources 0\n"
    ++ codes "processes 1\n"
    ++ codes "process p\n"
    ++ codes "vars 0\n"
    ++ codes "arms 1\n"
    ++ codes "claims\n"
    ++ codes "arm 0\n"
    ++ codes "code 2\n"
    ++ codes "0 print\n"
    ++ codes "0 end\n"

-- what there is to say of V2
abbrev pub v2-entry : Explanation
v2-entry = record {
  summary = codes "operands that do not fit";
  meaning =
      codes "There is no single number of operands for a place that is reached: an instruction\n"
      ++ codes "takes an operand that is not there, two ways to a place bring different numbers of\n"
      ++ codes "them, or there are more than 256.";
  example = Some (record {
    command = codes "exec";
    input = Text v2-input;
    answer = codes "refused V2";
  });
  mend =
      codes "Push what an instruction takes, and leave the same number of operands on each way\n"
      ++ codes "to a place.";
}

-- what the example of V3 reads
abbrev pub v3-input : List ℕ
v3-input =
    codes "PBO 2\n"
    ++ codes "resources 0\n"
    ++ codes "processes 1\n"
    ++ codes "process p\n"
    ++ codes "vars 0\n"
    ++ codes "arms 1\n"
    ++ codes "claims\n"
    ++ codes "arm 0\n"
    ++ codes "code 3\n"
    ++ codes "0 load 0\n"
    ++ codes "0 print\n"
    ++ codes "0 end\n"

-- what there is to say of V3
abbrev pub v3-entry : Explanation
v3-entry = record {
  summary = codes "an integer or a resource that is not there";
  meaning =
      codes "An instruction names an integer or a resource by a number that the object does not\n"
      ++ codes "have. Both are counted from 0.";
  example = Some (record {
    command = codes "exec";
    input = Text v3-input;
    answer = codes "refused V3";
  });
  mend = codes "Use a smaller number, or raise the number of integers in the line `vars`.";
}

-- what the example of V4 reads
abbrev pub v4-input : List ℕ
v4-input =
    codes "PBO 2\n"
    ++ codes "resources 1\n"
    ++ codes "resource tape 1\n"
    ++ codes "processes 1\n"
    ++ codes "process p\n"
    ++ codes "vars 0\n"
    ++ codes "arms 1\n"
    ++ codes "claims 1\n"
    ++ codes "arm 0\n"
    ++ codes "code 2\n"
    ++ codes "0 give 0 1\n"
    ++ codes "0 end\n"

-- what there is to say of V4
abbrev pub v4-entry : Explanation
v4-entry = record {
  summary = codes "holdings that do not fit";
  meaning =
      codes "There is no single list of what is held at a place that is reached: a `give` does not\n"
      ++ codes "return what was taken last, two ways to a place hold different lists, or more than\n"
      ++ codes "256 takes are open.";
  example = Some (record {
    command = codes "exec";
    input = Text v4-input;
    answer = codes "refused V4";
  });
  mend =
      codes "Let each `give` have the resources and amounts of the last `take` before it that is\n"
      ++ codes "still open, on each way to it.";
}

-- what the example of V5 reads
abbrev pub v5-input : List ℕ
v5-input =
    codes "PBO 2\n"
    ++ codes "resources 0\n"
    ++ codes "processes 1\n"
    ++ codes "process p\n"
    ++ codes "vars 0\n"
    ++ codes "arms 1\n"
    ++ codes "claims\n"
    ++ codes "arm 0\n"
    ++ codes "code 2\n"
    ++ codes "0 push 1\n"
    ++ codes "0 end\n"

-- what there is to say of V5
abbrev pub v5-entry : Explanation
v5-entry = record {
  summary = codes "operands or holdings that are left at an end";
  meaning =
      codes "An arm can come to its `end` with operands that nothing took, or with something that\n"
      ++ codes "it did not give back.";
  example = Some (record {
    command = codes "exec";
    input = Text v5-input;
    answer = codes "refused V5";
  });
  mend = codes "Print or store each operand, and give back what was taken, before the `end`.";
}

-- what the example of V6 reads
abbrev pub v6-input : List ℕ
v6-input =
    codes "PBO 2\n"
    ++ codes "resources 0\n"
    ++ codes "processes 1\n"
    ++ codes "process p\n"
    ++ codes "vars 0\n"
    ++ codes "arms 2\n"
    ++ codes "claims\n"
    ++ codes "arm 0\n"
    ++ codes "arm 2\n"
    ++ codes "code 3\n"
    ++ codes "0 fork 1 1\n"
    ++ codes "0 end\n"
    ++ codes "0 end\n"

-- what there is to say of V6
abbrev pub v6-entry : Explanation
v6-entry = record {
  summary = codes "forks and joins that do not fit";
  meaning =
      codes "A `fork` has no `join` of the same arms right after it or a `join` no such `fork`\n"
      ++ codes "before it, a jump goes to a `join`, a fork starts an arm that is not there or not\n"
      ++ codes "above its own, or an arm above 0 is started by no fork or by two.";
  example = Some (record {
    command = codes "exec";
    input = Text v6-input;
    answer = codes "refused V6";
  });
  mend = codes "Write each `fork` and its `join` as a pair, and start each arm by one of them.";
}

-- what the example of V7 reads
abbrev pub v7-input : List ℕ
v7-input =
    codes "PBO 2\n"
    ++ codes "resources 1\n"
    ++ codes "resource tape 1\n"
    ++ codes "processes 1\n"
    ++ codes "process p\n"
    ++ codes "vars 0\n"
    ++ codes "arms 1\n"
    ++ codes "claims 0\n"
    ++ codes "arm 0\n"
    ++ codes "code 3\n"
    ++ codes "0 take 0 1\n"
    ++ codes "0 give 0 1\n"
    ++ codes "0 end\n"

-- what there is to say of V7
abbrev pub v7-entry : Explanation
v7-entry = record {
  summary = codes "a process that may hold more than it claims";
  meaning =
      codes "The most of a resource that the code of a process may hold at once is more than the\n"
      ++ codes "claim that the object says. The banker lends by claims, so a claim that is too small\n"
      ++ codes "could end in a deadlock.";
  example = Some (record {
    command = codes "exec";
    input = Text v7-input;
    answer = codes "refused V7";
  });
  mend = codes "Raise the claim in the line `claims`, or take less.";
}

-- what the example of V8 reads
abbrev pub v8-input : List ℕ
v8-input =
    codes "PBO 2\n"
    ++ codes "resources 1\n"
    ++ codes "resource tape 1\n"
    ++ codes "processes 1\n"
    ++ codes "process p\n"
    ++ codes "vars 0\n"
    ++ codes "arms 1\n"
    ++ codes "claims 2\n"
    ++ codes "arm 0\n"
    ++ codes "code 1\n"
    ++ codes "0 end\n"

-- what there is to say of V8
abbrev pub v8-entry : Explanation
v8-entry = record {
  summary = codes "a claim over the capital, in an object";
  meaning = codes "The line `claims` of a process claims more of a resource than there is.";
  example = Some (record {
    command = codes "exec";
    input = Text v8-input;
    answer = codes "refused V8";
  });
  mend = codes "Lower the claim, or raise the capital in the line `resource`.";
}

-- what there is to say of V9
abbrev pub v9-entry : Explanation
v9-entry = record {
  summary = codes "code that is out of its limits";
  meaning =
      codes "A count, a number or a name of the code is not one that an object may have. No input\n"
      ++ codes "of `parbegin` is refused so, since the lines of an object are looked at first (O1\n"
      ++ codes "and O2). A program that calls the verifier as a library may bring code that it made\n"
      ++ codes "by itself, and then this is what it is told.";
  example = None;
  mend = codes "Keep to the limits of docs/FORMATS.md, \"Object text\".";
}
