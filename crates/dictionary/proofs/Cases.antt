-- Texts with the table of their words, lookups in such tables, and single entries: a table and a theorem for each. The places of the words are worked out by hand from 02's
-- Q-5; the hashes, and with them the slots, come from a program written apart from this one.
--   of s m o          == the words of the text s, put into m free slots in order, leave o
--   tables            the theorem: so it is for 24 texts. Of `liquid` and `costarring` the 32-bit hashes are the same, and both words stay
--   seek s m q i      == in the table of m slots that the words of s leave, the search for the word q, in any case, stops at the slot i
--   lookups           the theorem: so it is for 28 words. Some are found; for others the search stops at a free slot, or at none
--   entry s k h w b l == with the hash h, the word at the place k of s can be put into the table w or not (b), and this leaves l
--   entries           the theorem: so it is for eight words
-- Assumes nothing.
use Prim.Native.Nat.{ℕ}
use Prim.Native.String.{String}
use mathlib.Core.Path.{◌≡◌, refl}
use mathlib.Core.List.{List, [], ◌∷◌, map}
use mathlib.Core.Bool.{Bool, true, false}
use mathlib.Core.Option.{Option, none, some}
use Rattle.seq.specs.Below.{first_fail}
use Rattle.seq.specs.Lists.{same_list}
use Rattle.profile.specs.Bytes.{white, starts_with}
use Rattle.profile.specs.Spans.{span, other}
use Rattle.profile.proofs.Cases.{bytes_of}
use Rattle.skim.specs.Skim.{until, skim_comment, tag_kind, skim_tag, skim_of}
use Rattle.fnv.specs.Fnv.{hash_step, hash_from, hash_of}
use Rattle.probing.specs.Around.{turn, reached, around}
use Rattle.probing.specs.Table.{then_fill, holds, passes, home, slot_of, found, put, insert, fill}
use Rattle.words.specs.Runs.{word_byte, lower}
use Rattle.words.specs.Reading.{gap, word_from, word_at}
use Rattle.words.specs.Scan.{past_markup, skips_markup, past_other, skips_other, past, skips, starts, scan, mentions_in}
use Rattle.dictionary.specs.Slots.{stop_from, stop_of, enters, entered, table_of}

-- The table of m slots with the words of the text s.
abbrev table_in : String → ℕ → Option (List ℕ)
table_in s m = table_of (bytes_of s) m (map (λ v. v.place) (mentions_in (bytes_of s)))

-- ---- tables
pub record Case : Type 0 where
  pub text : String
  pub slots : ℕ
  pub leaves : Option (List ℕ)

abbrev pub of : String → ℕ → Option (List ℕ) → Case
of s m o = record { text = s; slots = m; leaves = o }

unfoldable pub texts : List Case
texts =
    -- no word
    of "<_/>" 0 (some []) ∷
    of "<_/>" 2 (some (0 ∷ 0 ∷ [])) ∷
    -- one word: a slot fewer, one slot, and two
    of "<a/>" 0 none ∷
    of "<a/>" 1 (some (2 ∷ [])) ∷
    of "<a/>" 2 (some (2 ∷ 0 ∷ [])) ∷
    -- two words, one of them twice, in two cases; in five slots they clash
    of "<train>North north</train>" 1 none ∷
    of "<train>North north</train>" 2 (some (8 ∷ 2 ∷ [])) ∷
    of "<train>North north</train>" 4 (some (8 ∷ 2 ∷ 0 ∷ 0 ∷ [])) ∷
    of "<train>North north</train>" 5 (some (0 ∷ 0 ∷ 0 ∷ 2 ∷ 8 ∷ [])) ∷
    -- a word through a comment, again behind a reference
    of "<t>no<!--x-->rth &lt;North lt</t>" 2 none ∷
    of "<t>no<!--x-->rth &lt;North lt</t>" 3 (some (2 ∷ 28 ∷ 4 ∷ [])) ∷
    of "<t>no<!--x-->rth &lt;North lt</t>" 7 (some (2 ∷ 4 ∷ 0 ∷ 0 ∷ 0 ∷ 0 ∷ 28 ∷ [])) ∷
    -- a clash in the last slot: the first is next
    of "<leg><leg/>leg-leg Leg2</leg>" 2 (some (20 ∷ 2 ∷ [])) ∷
    of "<leg><leg/>leg-leg Leg2</leg>" 4 (some (20 ∷ 0 ∷ 0 ∷ 2 ∷ [])) ∷
    of "<_>a b c d e</_>" 4 none ∷
    of "<_>a b c d e</_>" 5 (some (4 ∷ 12 ∷ 6 ∷ 8 ∷ 10 ∷ [])) ∷
    of "<_>a b c d e</_>" 10 (some (4 ∷ 0 ∷ 0 ∷ 10 ∷ 12 ∷ 0 ∷ 0 ∷ 6 ∷ 8 ∷ 0 ∷ [])) ∷
    -- words that begin alike
    of "<_>abc ab ABCD abcd</_>" 3 (some (8 ∷ 11 ∷ 4 ∷ [])) ∷
    of "<_>abc ab ABCD abcd</_>" 5 (some (0 ∷ 4 ∷ 8 ∷ 11 ∷ 0 ∷ [])) ∷
    -- two words with one hash
    of "<_>liquid costarring Liquid x</_>" 2 none ∷
    of "<_>liquid costarring Liquid x</_>" 3 (some (4 ∷ 11 ∷ 29 ∷ [])) ∷
    of "<_>liquid costarring Liquid x</_>" 6 (some (0 ∷ 0 ∷ 0 ∷ 4 ∷ 11 ∷ 29 ∷ [])) ∷
    of "<_>costarring<_/>LIQUID<_/>costarring</_>" 1 none ∷
    of "<_>costarring<_/>LIQUID<_/>costarring</_>" 2 (some (18 ∷ 4 ∷ [])) ∷
    []

pub tables : map (λ c. table_in c.text c.slots) texts ≡ map (λ c. c.leaves) texts
unfolding texts bytes_of first_fail same_list starts_with white span other until skim_comment tag_kind skim_tag skim_of hash_step hash_from hash_of turn reached around holds passes home slot_of found put insert fill word_byte lower gap word_from word_at past_markup skips_markup past_other skips_other past skips starts scan mentions_in table_of
tables = refl

-- ---- lookups
pub record Lookup : Type 0 where
  pub text : String
  pub slots : ℕ
  pub word : String
  pub stops : ℕ

abbrev pub seek : String → ℕ → String → ℕ → Lookup
seek s m q i = record { text = s; slots = m; word = q; stops = i }

unfoldable pub words : List Lookup
words =
    seek "<_/>" 0 "a" 0 ∷
    seek "<_/>" 2 "a" 0 ∷
    seek "<_/>" 2 "b" 1 ∷
    seek "<train>North north</train>" 4 "train" 1 ∷
    seek "<train>North north</train>" 4 "north" 0 ∷
    seek "<train>North north</train>" 4 "NORTH" 0 ∷
    seek "<train>North north</train>" 4 "south" 2 ∷
    seek "<train>North north</train>" 4 "nort" 2 ∷
    seek "<train>North north</train>" 4 "northern" 3 ∷
    seek "<train>North north</train>" 2 "North" 0 ∷
    seek "<train>North north</train>" 2 "south" 2 ∷
    seek "<train>North north</train>" 5 "north" 4 ∷
    seek "<train>North north</train>" 5 "nort" 0 ∷
    seek "<t>no<!--x-->rth &lt;North lt</t>" 7 "north" 1 ∷
    seek "<t>no<!--x-->rth &lt;North lt</t>" 7 "no" 4 ∷
    seek "<t>no<!--x-->rth &lt;North lt</t>" 7 "lt" 6 ∷
    seek "<leg><leg/>leg-leg Leg2</leg>" 4 "leg2" 0 ∷
    seek "<leg><leg/>leg-leg Leg2</leg>" 4 "leg3" 1 ∷
    seek "<_>a b c d e</_>" 5 "e" 1 ∷
    seek "<_>a b c d e</_>" 5 "f" 5 ∷
    seek "<_>abc ab ABCD abcd</_>" 5 "ab" 2 ∷
    seek "<_>abc ab ABCD abcd</_>" 5 "abcde" 4 ∷
    seek "<_>abc ab ABCD abcd</_>" 5 "b" 4 ∷
    seek "<_>liquid costarring Liquid x</_>" 3 "liquid" 0 ∷
    seek "<_>liquid costarring Liquid x</_>" 3 "costarring" 1 ∷
    seek "<_>liquid costarring Liquid x</_>" 3 "X" 2 ∷
    seek "<_>liquid costarring Liquid x</_>" 3 "y" 3 ∷
    seek "<_>liquid costarring Liquid x</_>" 6 "y" 0 ∷
    []

abbrev stop_in : String → String → List ℕ → Option (List ℕ)
stop_in s q w = some (stop_of (bytes_of s) (map lower (bytes_of q)) w ∷ [])

pub lookups : map (λ c. then_fill (table_in c.text c.slots) (stop_in c.text c.word)) words ≡ map (λ c. some (c.stops ∷ [])) words
unfolding words bytes_of first_fail same_list starts_with white span other until skim_comment tag_kind skim_tag skim_of hash_step hash_from hash_of turn reached around holds passes home slot_of found put insert fill word_byte lower gap word_from word_at past_markup skips_markup past_other skips_other past skips starts scan mentions_in table_of stop_from stop_of
lookups = refl

-- ---- entries
-- Whether a word can be put in, and the table then.
pub record Left : Type 0 where
  pub reply : Bool
  pub table : List ℕ

pub record Entry : Type 0 where
  pub text : String
  pub place : ℕ
  pub hash : ℕ
  pub table : List ℕ
  pub leaves : Left

abbrev pub entry : String → ℕ → ℕ → List ℕ → Bool → List ℕ → Entry
entry s k h w b l = record { text = s; place = k; hash = h; table = w; leaves = record { reply = b; table = l } }

-- The hash of `a` is 0xE40C292C, that of `b` is 0xE70C2DE5. The last two: 4,294,967,294 is the last place that a slot can name.
unfoldable pub single : List Entry
single =
    entry "<_>a A b</_>" 3 0xE40C292C (0 ∷ 0 ∷ 0 ∷ []) true (0 ∷ 4 ∷ 0 ∷ []) ∷
    entry "<_>a A b</_>" 5 0xE40C292C (0 ∷ 4 ∷ 0 ∷ []) true (0 ∷ 4 ∷ 0 ∷ []) ∷
    entry "<_>a A b</_>" 7 0xE70C2DE5 (0 ∷ 4 ∷ 0 ∷ []) true (0 ∷ 4 ∷ 8 ∷ []) ∷
    entry "<_>a A b</_>" 7 0xE70C2DE5 (4 ∷ []) false (4 ∷ []) ∷
    entry "<_>a A b</_>" 5 0xE40C292C (4 ∷ []) true (4 ∷ []) ∷
    entry "<_>a A b</_>" 7 0xE70C2DE5 [] false [] ∷
    entry "" 4294967294 0 (0 ∷ 0 ∷ []) true (4294967295 ∷ 0 ∷ []) ∷
    entry "" 4294967295 0 (0 ∷ 0 ∷ []) false (0 ∷ 0 ∷ []) ∷
    []

abbrev left : Entry → Left
left c =
    record {
      reply = enters (bytes_of c.text) c.place c.hash c.table;
      table = entered (bytes_of c.text) c.place c.hash c.table;
    }

pub entries : map left single ≡ map (λ c. c.leaves) single
unfolding single bytes_of first_fail same_list starts_with until skim_comment turn reached around holds passes word_byte lower gap word_from word_at stop_from enters entered
entries = refl
