-- Commands as they are read: what each verb asks of the words behind it.
use Rattle.std.proofs.Common.{◌≡◌, ◌≢◌, ℕ, ℤ, ◌≤◌, true, false, List, [], ◌∷◌, ◌++◌, length, take, codes, refl, sym, ap, ◌∙◌, subst, arith, All, slice_index, append-nil, length-append}
use Rattle.std.specs.Prelude.{if◌then◌else◌}
use Rattle.std.proofs.lemmas.Fmt.{signed_decimal_injective}
use Rattle.std.proofs.lemmas.List.Elements.{All-nil, All-cons}
use Rattle.std.specs.List.{AllZip}
use Rattle.std.specs.Str.{bytes_eq}
use Rattle.std.proofs.lemmas.List.{take_all}
use Rattle.std.proofs.lemmas.Slice.Eq.{bytes_eq-Decides}
use Rattle.db_format.specs.declared.value.Value.TheVariants.{Null, Int, Text, Blob, Real}
use Rattle.db_format.specs.declared.value.Value.{Value}
use Rattle.shell_lang.specs.declared.command.Command.{Command}
use Rattle.shell_lang.specs.declared.command.Command.TheVariants.{Create, Drop, Tables, Put, Get, Del, Scan, Count, Begin, Commit, Rollback, Reopen}
use Rattle.shell_lang.specs.declared.words.Verb.{Verb}
use Rattle.shell_lang.specs.declared.words.Verb.TheVariants.{Create as VCreate, Drop as VDrop, Tables as VTables, Put as VPut, Get as VGet, Del as VDel, Scan as VScan, Count as VCount, Begin as VBegin, Commit as VCommit, Rollback as VRollback, Reopen as VReopen}
use Rattle.shell_lang.specs.declared.command.Db.{Db}
use Rattle.shell_lang.specs.declared.command.Db.TheVariants.{Main}
use Rattle.shell_lang.specs.declared.command.TableName.{TableName}
use Rattle.shell_lang.specs.Command.{SpellsCommand, SpellsValue, IsOnTable, IsOnRow, IsNumber, joined}
use Rattle.shell_lang.specs.CommandSteps.{verb_text}
use Rattle.shell_lang.proofs.ReadLemmas.{number_some}
use Rattle.shell_lang.proofs.ValueLemmas.{one_row_each}

-- the verbs, in the order in which they are tried
abbrev pub verbs : List Verb
verbs = VCreate ∷ VDrop ∷ VTables ∷ VPut ∷ VGet ∷ VDel ∷ VScan ∷ VCount ∷ VBegin ∷ VCommit ∷ VRollback ∷ VReopen ∷ []

pub differs : (text word : List ℕ) (spelled : List ℕ) → text ≡ spelled → bytes_eq text word ≡ false → word ≢ spelled
differs text word spelled is other e =
    let passes : bytes_eq text word ≡ true = (bytes_eq-Decides text word).1 (is ∙ sym e) in
    let wrong : true ≡ false = sym passes ∙ other in
    cc

each_verb : (word : List ℕ) → All (λ verb. word ≢ verb_text verb) verbs → (verb : Verb) → word ≢ verb_text verb
each_verb word h VCreate = h 0 VCreate (omega arith)
each_verb word h VDrop = h 1 VCreate (omega arith)
each_verb word h VTables = h 2 VCreate (omega arith)
each_verb word h VPut = h 3 VCreate (omega arith)
each_verb word h VGet = h 4 VCreate (omega arith)
each_verb word h VDel = h 5 VCreate (omega arith)
each_verb word h VScan = h 6 VCreate (omega arith)
each_verb word h VCount = h 7 VCreate (omega arith)
each_verb word h VBegin = h 8 VCreate (omega arith)
each_verb word h VCommit = h 9 VCreate (omega arith)
each_verb word h VRollback = h 10 VCreate (omega arith)
each_verb word h VReopen = h 11 VCreate (omega arith)

pub no_verb : (word : List ℕ) (count : ℕ) → length verbs ≤ count → All (λ verb. word ≢ verb_text verb) (take count verbs) → (verb : Verb) → word ≢ verb_text verb
no_verb word count all h = each_verb word (subst (All (λ verb. word ≢ verb_text verb)) (take_all count verbs all) h)

-- a verb is found again by its text
abbrev verb_from : List ℕ → Verb
verb_from w =
    if bytes_eq w (codes "create") then VCreate
    else if bytes_eq w (codes "drop") then VDrop
    else if bytes_eq w (codes "tables") then VTables
    else if bytes_eq w (codes "put") then VPut
    else if bytes_eq w (codes "get") then VGet
    else if bytes_eq w (codes "del") then VDel
    else if bytes_eq w (codes "scan") then VScan
    else if bytes_eq w (codes "count") then VCount
    else if bytes_eq w (codes "begin") then VBegin
    else if bytes_eq w (codes "commit") then VCommit
    else if bytes_eq w (codes "rollback") then VRollback
    else VReopen

verb_back : (verb : Verb) → verb_from (verb_text verb) ≡ verb
verb_back VCreate = refl
verb_back VDrop = refl
verb_back VTables = refl
verb_back VPut = refl
verb_back VGet = refl
verb_back VDel = refl
verb_back VScan = refl
verb_back VCount = refl
verb_back VBegin = refl
verb_back VCommit = refl
verb_back VRollback = refl
verb_back VReopen = refl

pub one_verb : (a b : Verb) → verb_text a ≡ verb_text b → a ≡ b
one_verb a b e = sym (verb_back a) ∙ ap verb_from e ∙ verb_back b

-- the verb of a command
abbrev pub verb_of : Command → Verb
verb_of (Create t cs) = VCreate
verb_of (Drop t) = VDrop
verb_of Tables = VTables
verb_of (Put t z vs) = VPut
verb_of (Get t z) = VGet
verb_of (Del t z) = VDel
verb_of (Scan t z y) = VScan
verb_of (Count t) = VCount
verb_of Begin = VBegin
verb_of Commit = VCommit
verb_of Rollback = VRollback
verb_of Reopen = VReopen

pub spelled_verb : (words : List (List ℕ)) (c : Command) → SpellsCommand words c → (rest : List (List ℕ)) × (words ≡ verb_text (verb_of c) ∷ rest)
spelled_verb words (Create t cs) s = (t.name ∷ cs, s.0.spelled)
spelled_verb words (Drop t) s = (t.name ∷ [], s.spelled)
spelled_verb words Tables s = ([], s)
spelled_verb words (Put t z vs) s = (t.name ∷ s.on.number ∷ s.texts, s.on.on.spelled)
spelled_verb words (Get t z) s = (t.name ∷ s.number ∷ [], s.on.spelled)
spelled_verb words (Del t z) s = (t.name ∷ s.number ∷ [], s.on.spelled)
spelled_verb words (Scan t z y) s = (t.name ∷ s.on.number ∷ s.number ∷ [], s.on.on.spelled)
spelled_verb words (Count t) s = (t.name ∷ [], s.spelled)
spelled_verb words Begin s = ([], s)
spelled_verb words Commit s = ([], s)
spelled_verb words Rollback s = ([], s)
spelled_verb words Reopen s = ([], s)

-- words that begin with no verb
pub unread : (words rest : List (List ℕ)) (word : List ℕ) → words ≡ word ∷ rest → ((verb : Verb) → word ≢ verb_text verb) → (c : Command) → ¬ (SpellsCommand words c)
unread words rest word is none c s =
    let verb = spelled_verb words c s in
    none (verb_of c) (cc (is, verb.1))

-- a text of words begins with the first of them
joined_front : (word : List ℕ) (rest : List (List ℕ)) → (more : List ℕ) × (joined (word ∷ rest) ≡ word ++ more)
joined_front word [] = ([], sym (append-nil word))
joined_front word (y ∷ ys) = (32 ∷ joined (y ∷ ys), refl)

-- no verb begins with `@`
verb_first : (v : Verb) (more : List ℕ) → slice_index (verb_text v ++ more) 0 ≢ 64
verb_first VCreate more e = omega (arith, e)
verb_first VDrop more e = omega (arith, e)
verb_first VTables more e = omega (arith, e)
verb_first VPut more e = omega (arith, e)
verb_first VGet more e = omega (arith, e)
verb_first VDel more e = omega (arith, e)
verb_first VScan more e = omega (arith, e)
verb_first VCount more e = omega (arith, e)
verb_first VBegin more e = omega (arith, e)
verb_first VCommit more e = omega (arith, e)
verb_first VRollback more e = omega (arith, e)
verb_first VReopen more e = omega (arith, e)

pub unmarked : (words : List (List ℕ)) (c : Command) (line named : List ℕ) → SpellsCommand words c → line ≡ joined words → line ≢ 64 ∷ named
unmarked words c line named s is marked =
    let verb = spelled_verb words c s in
    let front = joined_front (verb_text (verb_of c)) verb.0 in
    let begins : line ≡ verb_text (verb_of c) ++ front.0 = is ∙ ap joined verb.1 ∙ front.1 in
    let first : slice_index line 0 ≡ 64 = ap (λ l. slice_index l 0) marked in
    verb_first (verb_of c) front.0 (sym (ap (λ l. slice_index l 0) begins) ∙ first)

pub some_words : (words : List (List ℕ)) (c : Command) → SpellsCommand words c → 1 ≤ length words
some_words words c s = let verb = spelled_verb words c s in omega (arith, ap length verb.1)

-- no word of a command is empty
abbrev HasByte : List ℕ → Type 0
HasByte word = 1 ≤ length word

number_has : (number : List ℕ) (z : ℤ) → IsNumber number z → HasByte number
number_has number z is = omega (arith, ap length is.spelled, number_some z is.fits)

table_has : (words : List (List ℕ)) (first name : List ℕ) (rest : List (List ℕ)) → IsOnTable words first name rest → HasByte first → All HasByte rest → All HasByte words
table_has words first name rest on some others =
    subst (All HasByte) (sym on.spelled) (All-cons HasByte first (name ∷ rest) some (All-cons HasByte name rest on.named.some others))

row_has : (words : List (List ℕ)) (first name : List ℕ) (z : ℤ) (rest : List (List ℕ)) → IsOnRow words first name z rest → HasByte first → All HasByte rest → All HasByte words
row_has words first name z rest on some others =
    table_has words first name (on.number ∷ rest) on.on some (All-cons HasByte on.number rest (number_has on.number z on.rowid_is) others)

value_has : (word : List ℕ) (value : Value) → SpellsValue word value → HasByte word
value_has word Null s = omega (arith, ap length s)
value_has word (Int z) s = omega (arith, ap length s.spelled, length-append (codes "i:") s.number)
value_has word (Text t) s = omega (arith, ap length s.spelled, length-append (codes "t:") s.escaped)
value_has word (Blob t) s = omega (arith, ap length s.spelled, length-append (codes "b:") s.digits)
value_has word (Real r) s = absurd s

values_have : (texts : List (List ℕ)) (values : List Value) → AllZip SpellsValue texts values → All HasByte texts
values_have [] [] z = All-nil HasByte
values_have [] (v ∷ vs) z = absurd z
values_have (t ∷ ts) [] z = absurd z
values_have (t ∷ ts) (v ∷ vs) z = All-cons HasByte t ts (value_has t v z.0) (values_have ts vs z.1)

alone_has : (words : List (List ℕ)) (word : List ℕ) → words ≡ word ∷ [] → HasByte word → All HasByte words
alone_has words word is some = subst (All HasByte) (sym is) (All-cons HasByte word [] some (All-nil HasByte))

pub words_have : (words : List (List ℕ)) (c : Command) → SpellsCommand words c → All HasByte words
words_have words (Create t cs) s = table_has words _ _ cs s.0 (omega arith) (λ k d within. (s.1.each k d within).some)
words_have words (Drop t) s = table_has words _ _ [] s (omega arith) (All-nil HasByte)
words_have words Tables s = alone_has words _ s (omega arith)
words_have words (Put t z vs) s = row_has words _ _ z s.texts s.on (omega arith) (values_have s.texts vs s.each)
words_have words (Get t z) s = row_has words _ _ z [] s (omega arith) (All-nil HasByte)
words_have words (Del t z) s = row_has words _ _ z [] s (omega arith) (All-nil HasByte)
words_have words (Scan t z y) s = row_has words _ _ z (s.number ∷ []) s.on (omega arith) (All-cons HasByte s.number [] (number_has s.number y s.high_is) (All-nil HasByte))
words_have words (Count t) s = table_has words _ _ [] s (omega arith) (All-nil HasByte)
words_have words Begin s = alone_has words _ s (omega arith)
words_have words Commit s = alone_has words _ s (omega arith)
words_have words Rollback s = alone_has words _ s (omega arith)
words_have words Reopen s = alone_has words _ s (omega arith)

-- words give one command
one_db : (a b : Db) → a ≡ b
one_db Main Main = refl

one_table : (t u : TableName) → t.name ≡ u.name → t ≡ u
one_table t u e = λ i. record { db = one_db t.db u.db i; name = e i }

one_number : (number number' : List ℕ) (z y : ℤ) → number ≡ number' → IsNumber number z → IsNumber number' y → z ≡ y
one_number number number' z y e p q = signed_decimal_injective z y p.fits.sfits q.fits.sfits (sym p.spelled ∙ e ∙ q.spelled)

-- a table on two ways of reading it, and the words behind it
table_twice : (words : List (List ℕ)) (first first' : List ℕ) (t u : TableName) (rest rest' : List (List ℕ)) → IsOnTable words first t.name rest → IsOnTable words first' u.name rest'
    → (t ≡ u) × (rest ≡ rest')
table_twice words first first' t u rest rest' p q =
    let e : first ∷ t.name ∷ rest ≡ first' ∷ u.name ∷ rest' = sym p.spelled ∙ q.spelled in
    let name_is : t.name ≡ u.name = cc (e) in
    (one_table t u name_is, cc (e))

row_twice : (words : List (List ℕ)) (first first' : List ℕ) (t u : TableName) (z y : ℤ) (rest rest' : List (List ℕ)) → IsOnRow words first t.name z rest → IsOnRow words first' u.name y rest'
    → (t ≡ u) × ((z ≡ y) × (rest ≡ rest'))
row_twice words first first' t u z y rest rest' p q =
    let on = table_twice words first first' t u (p.number ∷ rest) (q.number ∷ rest') p.on q.on in
    let number_is : p.number ≡ q.number = cc (on.1) in
    (on.0, (one_number p.number q.number z y number_is p.rowid_is q.rowid_is, cc (on.1)))

verbs_meet : (words : List (List ℕ)) (c d : Command) → SpellsCommand words c → SpellsCommand words d → verb_of c ≡ verb_of d
verbs_meet words c d s r =
    let one = spelled_verb words c s in
    let two = spelled_verb words d r in
    let e : verb_text (verb_of c) ∷ one.0 ≡ verb_text (verb_of d) ∷ two.0 = sym one.1 ∙ two.1 in
    one_verb (verb_of c) (verb_of d) (cc (e))

pub words_once : (words : List (List ℕ)) (c d : Command) → SpellsCommand words c → SpellsCommand words d → c ≡ d
words_once words (Create t cs) (Create u ds) s r = let both = table_twice words _ _ t u cs ds s.0 r.0 in λ i. Create (both.0 i) (both.1 i)
words_once words (Create t cs) d s r = let wrong : VCreate ≡ verb_of d = verbs_meet words (Create t cs) d s r in absurd (cc)
words_once words (Drop t) (Drop u) s r = ap Drop (table_twice words _ _ t u [] [] s r).0
words_once words (Drop t) d s r = let wrong : VDrop ≡ verb_of d = verbs_meet words (Drop t) d s r in absurd (cc)
words_once words Tables Tables s r = refl
words_once words Tables d s r = let wrong : VTables ≡ verb_of d = verbs_meet words Tables d s r in absurd (cc)
words_once words (Put t z vs) (Put u y ws) s r =
    let both = row_twice words _ _ t u z y s.texts r.texts s.on r.on in
    let row = one_row_each r.texts vs ws (subst (λ ts. AllZip SpellsValue ts vs) both.1.1 s.each) r.each in
    λ i. Put (both.0 i) (both.1.0 i) (row i)
words_once words (Put t z vs) d s r = let wrong : VPut ≡ verb_of d = verbs_meet words (Put t z vs) d s r in absurd (cc)
words_once words (Get t z) (Get u y) s r = let both = row_twice words _ _ t u z y [] [] s r in λ i. Get (both.0 i) (both.1.0 i)
words_once words (Get t z) d s r = let wrong : VGet ≡ verb_of d = verbs_meet words (Get t z) d s r in absurd (cc)
words_once words (Del t z) (Del u y) s r = let both = row_twice words _ _ t u z y [] [] s r in λ i. Del (both.0 i) (both.1.0 i)
words_once words (Del t z) d s r = let wrong : VDel ≡ verb_of d = verbs_meet words (Del t z) d s r in absurd (cc)
words_once words (Scan t z a) (Scan u y b) s r =
    let both = row_twice words _ _ t u z y (s.number ∷ []) (r.number ∷ []) s.on r.on in
    let number_is : s.number ≡ r.number = cc (both.1.1) in
    let high = one_number s.number r.number a b number_is s.high_is r.high_is in
    λ i. Scan (both.0 i) (both.1.0 i) (high i)
words_once words (Scan t z a) d s r = let wrong : VScan ≡ verb_of d = verbs_meet words (Scan t z a) d s r in absurd (cc)
words_once words (Count t) (Count u) s r = ap Count (table_twice words _ _ t u [] [] s r).0
words_once words (Count t) d s r = let wrong : VCount ≡ verb_of d = verbs_meet words (Count t) d s r in absurd (cc)
words_once words Begin Begin s r = refl
words_once words Begin d s r = let wrong : VBegin ≡ verb_of d = verbs_meet words Begin d s r in absurd (cc)
words_once words Commit Commit s r = refl
words_once words Commit d s r = let wrong : VCommit ≡ verb_of d = verbs_meet words Commit d s r in absurd (cc)
words_once words Rollback Rollback s r = refl
words_once words Rollback d s r = let wrong : VRollback ≡ verb_of d = verbs_meet words Rollback d s r in absurd (cc)
words_once words Reopen Reopen s r = refl
words_once words Reopen d s r = let wrong : VReopen ≡ verb_of d = verbs_meet words Reopen d s r in absurd (cc)
