-- Sixty texts with the reader's verdict, twelve with their nodes, and twelve under narrow limits: a table and a theorem for each. Last, a row of names with their numbers.
--   bytes_of s    == the bytes of a quoted text: its characters' numbers
--   fine s       == the text s is of the profile
--   refused s i  == it is not: MARKUP, with the place i
--   verdicts     the theorem: the reader gives every verdict of the first table
--   trees        and meets the nodes of the second
--   replies      and replies so to the third, with at most 2 levels and 4 nodes
--   numbers      names are numbered from 1 in order of first appearance, by all their bytes; no name is 0
-- The tables come from another reader, written apart from this one. Assumes nothing.
use Prim.Native.Nat.{ℕ}
use Prim.Native.Char.{code}
use Prim.Native.String.{String, [] as []ˢ, ◌∷◌ as ◌∷ˢ◌}
use mathlib.Core.Path.{◌≡◌, refl}
use mathlib.Core.List.{List, [], ◌∷◌, map}
use mathlib.Core.Option.{Option, none, some}
use Rattle.seq.specs.Lists.{same_list}
use Rattle.profile.specs.Bytes.{char, white, name_start, name_char, data_char}
use Rattle.profile.specs.Machine.{run_byte, run_next, step_between, step_angle, step_tag, step_comment, step_ampersand, step_ampersand_a, step, run, accepting, reach, markup}
use Rattle.profile.specs.Tree.{Node, node}
use Rattle.profile.specs.Reader.{end_at, note, read, tree_of}
use Rattle.profile.specs.Tags.{known, place, with, tags_after, tags_of}
use Rattle.profile.specs.Check.{Reply, whole, broken, over, meets, depth_after, solid_after, check, reply_to}

unfoldable pub bytes_of : String → List ℕ
bytes_of []ˢ = []
bytes_of (c ∷ˢ s) = code c ∷ bytes_of s

-- ---- verdicts
pub record Case : Type 0 where
  pub text : String
  pub verdict : Option ℕ

abbrev pub fine : String → Case
fine s = record { text = s; verdict = none }

abbrev pub refused : String → ℕ → Case
refused s i = record { text = s; verdict = some i }

unfoldable pub table : List Case
table =
    fine "<a/>" ∷
    fine "<a></a>" ∷
    fine "<a> x </a>" ∷
    fine "<a\t\r\n/>" ∷
    fine "<a ></a >" ∷
    fine "<:a_B-.9/>" ∷
    fine " <!--c--> <a/> <!-- d -->\n" ∷
    fine "<a>&lt;&gt;&amp;&apos;&quot;</a>" ∷
    fine "<a><b/>x<b>y</b></a>" ∷
    fine "<a>]]<!---->></a>" ∷
    fine "<a>]]&gt;</a>" ∷
    fine "<a>]>]]</a>" ∷
    fine "<!--->--><a/>" ∷
    fine "<a><!----></a>" ∷
    fine "<a><!-- - -x--></a>" ∷
    fine "<a>\u{7f}</a>" ∷
    refused "<a>]]></a>" 5 ∷
    refused "<a>]]]></a>" 6 ∷
    refused "<a></b>" 5 ∷
    refused "<ab></a>" 7 ∷
    refused "<a></ab>" 6 ∷
    refused "<a></a" 6 ∷
    refused "</a>" 1 ∷
    refused "&amp;" 0 ∷
    refused "x" 0 ∷
    refused "<a>&ltx</a>" 6 ∷
    refused "<a>&apm;</a>" 6 ∷
    refused "<a>&#65;</a>" 4 ∷
    refused "<a>& </a>" 4 ∷
    refused "" 0 ∷
    refused "  " 2 ∷
    refused "<a/><b/>" 5 ∷
    refused "<a/>x" 4 ∷
    refused "<a/></a>" 5 ∷
    refused "<a b=\"c\"/>" 3 ∷
    refused "<a b" 3 ∷
    refused "</" 1 ∷
    refused "<" 1 ∷
    refused "<?xml?>" 1 ∷
    refused "<!DOCTYPE a>" 2 ∷
    refused "<a><![CDATA[x]]></a>" 5 ∷
    refused "<a" 2 ∷
    refused "<a/" 3 ∷
    refused "<a/ >" 3 ∷
    refused "< a/>" 1 ∷
    refused "<1/>" 1 ∷
    refused "<-/>" 1 ∷
    refused "<a>\u{1}</a>" 3 ∷
    refused "<a>\u{1f}</a>" 3 ∷
    refused "<a>\u{80}</a>" 3 ∷
    refused "<a\0/>" 2 ∷
    refused "<!-- -- --><a/>" 7 ∷
    refused "<!-----><a/>" 6 ∷
    refused "<!--\u{8}--><a/>" 4 ∷
    refused "<a><!--" 7 ∷
    refused "<a><b></a></b>" 8 ∷
    refused "<a>x" 4 ∷
    refused "<a>x<b>" 7 ∷
    refused "<a></ a>" 5 ∷
    refused "<a></a b>" 7 ∷
    []

pub verdicts : map (λ c. markup (bytes_of c.text)) table ≡ map (λ c. c.verdict) table
unfolding table bytes_of char white name_start name_char data_char run_byte run_next step_between step_angle step_tag step_comment step_ampersand step_ampersand_a step run accepting reach markup
verdicts = refl

-- ---- nodes
pub record Sample : Type 0 where
  pub text : String
  pub nodes : List Node

abbrev pub sample : String → List Node → Sample
sample s ns = record { text = s; nodes = ns }

-- An element, and a node of data: the parent, the level, the name, and the places of the first byte, the last, and where it is met.
abbrev pub elem : ℕ → ℕ → String → ℕ → ℕ → ℕ → Node
elem par lev n f l c = node par lev (bytes_of n) f l c

abbrev pub text : ℕ → ℕ → ℕ → ℕ → ℕ → Node
text par lev f l c = node par lev [] f l c

unfoldable pub samples : List Sample
samples =
    sample "<a/>" (elem 0 1 "a" 0 3 3 ∷ []) ∷
    sample "<a> x </a>" (elem 0 1 "a" 0 9 2 ∷ text 0 2 3 5 4 ∷ []) ∷
    sample "<a> <b/>\n</a>" (elem 0 1 "a" 0 12 2 ∷ elem 0 2 "b" 4 7 7 ∷ []) ∷
    sample "<a> <!--c-->x</a>" (elem 0 1 "a" 0 16 2 ∷ text 0 2 3 12 12 ∷ []) ∷
    sample "<a><!--c-->x<!--d--></a>" (elem 0 1 "a" 0 23 2 ∷ text 0 2 11 11 11 ∷ []) ∷
    sample "<a>x<!--c--> </a>" (elem 0 1 "a" 0 16 2 ∷ text 0 2 3 12 3 ∷ []) ∷
    sample "<a>&amp;</a>" (elem 0 1 "a" 0 11 2 ∷ text 0 2 3 7 3 ∷ []) ∷
    sample "<a> &lt; &gt;<b/> y<b >z</b ></a >" (elem 0 1 "a" 0 33 2 ∷ text 0 2 3 12 4 ∷ elem 0 2 "b" 13 16 16 ∷ text 0 2 17 18 18 ∷ elem 0 2 "b" 19 28 22 ∷ text 4 3 23 23 23 ∷ []) ∷
    sample "<a><b><c/></b><b>q</b>r</a>" (elem 0 1 "a" 0 26 2 ∷ elem 0 2 "b" 3 13 5 ∷ elem 1 3 "c" 6 9 9 ∷ elem 0 2 "b" 14 21 16 ∷ text 3 3 17 17 17 ∷ text 0 2 22 22 22 ∷ []) ∷
    sample "<!--h--><a><b></b>]]</a> " (elem 0 1 "a" 8 23 10 ∷ elem 0 2 "b" 11 17 13 ∷ text 0 2 18 19 18 ∷ []) ∷
    sample "<a\n>\t&quot;\t</a\n>" (elem 0 1 "a" 0 16 3 ∷ text 0 2 4 11 5 ∷ []) ∷
    sample "<a>x<b>y<c>z</c></b>w</a>" (elem 0 1 "a" 0 24 2 ∷ text 0 2 3 3 3 ∷ elem 0 2 "b" 4 19 6 ∷ text 2 3 7 7 7 ∷ elem 2 3 "c" 8 15 10 ∷ text 4 4 11 11 11 ∷ text 0 2 20 20 20 ∷ []) ∷
    []

pub trees : map (λ c. tree_of (bytes_of c.text)) samples ≡ map (λ c. c.nodes) samples
unfolding samples bytes_of char white name_start name_char data_char run_byte run_next step_between step_angle step_tag step_comment step_ampersand step_ampersand_a step end_at note read tree_of
trees = refl

-- ---- limits
pub record Limited : Type 0 where
  pub text : String
  pub reply : Reply

abbrev pub limited : String → Reply → Limited
limited s r = record { text = s; reply = r }

unfoldable pub narrow : List Limited
narrow =
    limited "<a><b/><c/></a>" (whole 3) ∷
    limited "<a><b><c/></b></a>" (over 2) ∷
    limited "<a><b>x</b></a>" (over 2) ∷
    limited "<a><b> </b></a>" (whole 2) ∷
    limited "<a><b> &#" (over 2) ∷
    limited "<a><b><c" (broken 8) ∷
    limited "<a><b><c x>" (broken 9) ∷
    limited "<a><b/><b/><b/><b/></a>" (over 4) ∷
    limited "<a>x<b/>y<b/></a>" (over 4) ∷
    limited "<a><b/><b/>x<!--c-->y</a>" (whole 4) ∷
    limited "<a><b/><b/><b/> ]]>" (over 4) ∷
    limited "<a><b/><b/><b/>]]>" (over 4) ∷
    []

pub replies : map (λ c. reply_to 2 4 (bytes_of c.text)) narrow ≡ map (λ c. c.reply) narrow
unfolding narrow bytes_of char white name_start name_char data_char run_byte run_next step_between step_angle step_tag step_comment step_ampersand step_ampersand_a step accepting meets depth_after solid_after check reply_to
replies = refl

-- ---- tags
pub numbers : tags_of (map bytes_of ("b" ∷ "" ∷ "ba" ∷ "b" ∷ "a" ∷ "ba" ∷ "" ∷ "B" ∷ "bab" ∷ "a" ∷ [])) ≡ 1 ∷ 0 ∷ 2 ∷ 1 ∷ 3 ∷ 2 ∷ 0 ∷ 4 ∷ 5 ∷ 3 ∷ []
unfolding bytes_of same_list known place with tags_after tags_of
numbers = refl
