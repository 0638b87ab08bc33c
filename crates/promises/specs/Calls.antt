-- A series of calls that change a file: what they answer, what they leave in the file, and what they leave of its contents.
use Rattle.std.specs.Prelude.{ℕ, zero, suc, ◌+◌, ◌-◌, ◌≡◌, Bool, false, cond, ◌&&◌, List, [], ◌∷◌, ◌++◌, map, eqb, ℤ, length, take, drop}
use Rattle.image.specs.Image.{splice}
use Rattle.geometry.specs.Units.{offset_of}
use Rattle.pieces.specs.Tables.{same_integer}
use Rattle.writer.specs.declared.answers.Appended.{Appended}
use Rattle.storing.specs.Handed.{Handed, Integers, words_of}
use Rattle.writer.specs.Answers.{append_of, file_after}
use Rattle.batch.specs.declared.answers.Batched.{Batched}
use Rattle.batch.specs.Batch.{Batch, IntegersIn, entries_in}
use Rattle.batch.specs.Answers.{batch_of, file_after_batch}
use Rattle.update.specs.Answers.{Update, space_of, padded, place_named, update_of, file_after_update}
use Rattle.promises.specs.Contents.{start_in, Section, Content, Reading, holds, refused}

-- a call with all that is handed in: an append, a batch of them, or an update of a section
pub data Call : Type 0 where
  append : Handed → Call
  batch : Batch → Call
  update : Update → Call

-- its integers that are stored are ones that their words can hold, as every caller's are. An update stores none
abbrev pub Fits : Call → Type 0
Fits (append h) = Integers h
Fits (batch b) = IntegersIn b
Fits (update u) = Unit

-- so are those of all of a series of calls
abbrev pub AllFit : List Call → Type 0
AllFit [] = Unit
AllFit (c ∷ cs) = Fits c × AllFit cs

-- an answer of a call
pub data Answer : Type 0 where
  appended : Appended → Answer
  batched : Batched → Answer
  updated : ℕ → Answer

-- its refusal
abbrev pub refusal_of : Answer → ℕ
refusal_of (appended a) = a.refusal
refusal_of (batched a) = a.refusal
refusal_of (updated n) = n

-- how many entries of a batch it says were accepted
abbrev pub count_of : Answer → ℕ
count_of (appended a) = 0
count_of (batched a) = a.accepted
count_of (updated n) = 0

-- what a call answers
abbrev pub answer_of : List ℕ → Call → Answer
answer_of file (append h) = appended (append_of file h)
answer_of file (batch b) = batched (batch_of file b)
answer_of file (update u) = updated (update_of file u)

-- the file after it
abbrev pub after_call : List ℕ → Call → List ℕ
after_call file (append h) = file_after file h
after_call file (batch b) = file_after_batch file b
after_call file (update u) = file_after_update file u

-- the file after a series of calls
abbrev pub run : List Call → List ℕ → List ℕ
run [] file = file
run (c ∷ cs) file = run cs (after_call file c)

-- and their answers
abbrev pub answers : List Call → List ℕ → List Answer
answers [] file = []
answers (c ∷ cs) file = answer_of file c ∷ answers cs (after_call file c)

-- ---- what is added, by arguments and answers alone

-- the sections handed in: each length cut from the bytes that the lengths before it left
abbrev pub sections_cut : List ℤ → List ℤ → List ℕ → List Section
sections_cut [] lengths bytes = []
sections_cut (z ∷ ids) [] bytes = []
sections_cut (z ∷ ids) (n ∷ lengths) bytes =
    let size = offset_of (words_of n) in
    record { identifier = z; bytes = take size bytes } ∷ sections_cut ids lengths (drop size bytes)

-- the content that an append hands in
unfoldable pub handed_content : Handed → Content
handed_content h = record {
  version = h.version;
  index = h.index;
  sections = sections_cut h.ids h.lengths h.sections;
  values = h.values;
}

-- what a call with an answer adds: an append its content where the answer is no refusal, a batch the contents of its first entries, as many as the answer says, an
-- update nothing
abbrev pub added : Call → Answer → List Reading
added (append h) a = cond (eqb (refusal_of a) 0) (holds (handed_content h) ∷ []) []
added (batch b) a = map (λ h. holds (handed_content h)) (take (count_of a) (entries_in b))
added (update u) a = []

-- all that a series adds
abbrev pub accepted : List Call → List Answer → List Reading
accepted [] given = []
accepted (c ∷ cs) [] = []
accepted (c ∷ cs) (a ∷ given) = added c a ++ accepted cs given

-- ---- what is updated, by arguments and answers alone

-- a section rewritten: the new content, and zeros in the rest of its space
abbrev pub rewritten : List ℕ → Section → Section
rewritten content s = record { identifier = s.identifier; bytes = padded content (length s.bytes) }

-- the sections with the first that has the identifier rewritten
abbrev pub first_rewritten : ℤ → List ℕ → List Section → List Section
first_rewritten z content [] = []
first_rewritten z content (s ∷ sections) = cond (same_integer s.identifier z) (rewritten content s ∷ sections) (s ∷ first_rewritten z content sections)

-- what an accepted update makes of what was found under its number: that section is rewritten, all else stays
abbrev pub reading_updated : Update → Reading → Reading
reading_updated u (refused n) = refused n
reading_updated u (holds c) = holds (record {
  version = c.version;
  index = c.index;
  sections = first_rewritten u.identifier u.content c.sections;
  values = c.values;
})

-- a call with an answer is an accepted update of the entry with number k
abbrev pub updates : Call → Answer → ℕ → Bool
updates (append h) a k = false
updates (batch b) a k = false
updates (update u) a k = eqb (refusal_of a) 0 && eqb u.number.0 k

-- what a call makes of what was found under the number of an entry that it updates
abbrev pub updated_by : Call → Reading → Reading
updated_by (append h) r = r
updated_by (batch b) r = r
updated_by (update u) r = reading_updated u r

-- and under any number k
abbrev pub reading_after : Call → Answer → ℕ → Reading → Reading
reading_after c a k r = cond (updates c a k) (updated_by c r) r

-- what a series leaves of it, call by call
abbrev pub reading_after_all : List Call → List Answer → ℕ → Reading → Reading
reading_after_all [] given k r = r
reading_after_all (c ∷ cs) [] k r = r
reading_after_all (c ∷ cs) (a ∷ given) k r = reading_after_all cs given k (reading_after c a k r)

-- the bytes of an entry's words after a call that updates it: the section is rewritten where it stands in a file
abbrev pub words_by : List ℕ → Call → List ℕ → List ℕ
words_by file (append h) words = words
words_by file (batch b) words = words
words_by file (update u) words =
    let p = place_named file u in
    splice words (p.start - offset_of (start_in file u.number)) (padded u.content (space_of p))

-- and after any call with an answer, of the entry with number k
abbrev pub words_after : List ℕ → Call → Answer → ℕ → List ℕ → List ℕ
words_after file c a k words = cond (updates c a k) (words_by file c words) words

-- and after a series, call by call
abbrev pub words_after_all : List ℕ → List Call → List Answer → ℕ → List ℕ → List ℕ
words_after_all file [] given k words = words
words_after_all file (c ∷ cs) [] k words = words
words_after_all file (c ∷ cs) (a ∷ given) k words = words_after_all file cs given k (words_after file c a k words)

-- ---- what is left, by arguments and answers alone

-- f of each, with its number, counted from k on
abbrev pub each_from : ℕ → (ℕ → Reading → Reading) → List Reading → List Reading
each_from k f [] = []
each_from k f (r ∷ readings) = f k r ∷ each_from (suc k) f readings

-- the contents that a call with an answer leaves of those before it: each of these, updated or not, and then what it adds
abbrev pub contents_after : Call → Answer → List Reading → List Reading
contents_after c a readings = each_from 1 (reading_after c a) readings ++ added c a

-- and those that a series leaves, call by call
abbrev pub contents_after_all : List Call → List Answer → List Reading → List Reading
contents_after_all [] given readings = readings
contents_after_all (c ∷ cs) [] readings = readings
contents_after_all (c ∷ cs) (a ∷ given) readings = contents_after_all cs given (contents_after c a readings)

-- ---- numbers

-- after n entries an accepted append answers n + 1; a batch and an update answer no number
abbrev pub NumberedNext : ℕ → Answer → Type 0
NumberedNext n (appended a) = a.refusal ≡ 0 → a.number.0 ≡ n + 1
NumberedNext n (batched a) = Unit
NumberedNext n (updated m) = Unit

-- so does each of a series, after the entries that the calls before it added
abbrev pub AllNumbered : ℕ → List Call → List Answer → Type 0
AllNumbered n [] given = Unit
AllNumbered n (c ∷ cs) [] = Unit
AllNumbered n (c ∷ cs) (a ∷ given) = NumberedNext n a × AllNumbered (n + length (added c a)) cs given

-- n + 1, n + 2, .., m of them
abbrev pub following : ℕ → ℕ → List ℕ
following n zero = []
following n (suc m) = (n + 1) ∷ following (n + 1) m
