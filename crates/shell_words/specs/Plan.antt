-- The words of the command line: the plan that they name.
use Rattle.std.specs.Prelude.{◌≡◌, ◌⊎◌, ℕ, ◌+◌, ◌-◌, ◌*◌, ◌/◌, ◌^◌, ◌≤◌, ◌==◌, Bool, true, false, if◌then◌else◌, List, [], ◌∷◌, ◌++◌, length, map, codes, Option, Some, None, slice_get, ◌≢◌, IsTrue}
use Rattle.std.specs.Fmt.{decimal}
use Rattle.std.specs.List.{join_with_byte, flat_map, AllZip, AllPairs}
use Rattle.vfs_model.specs.Name.{IsName, kind_of}
use Rattle.vfs_model.specs.Pattern.{IsPattern}
use Rattle.vfs_model.specs.Stack.{IsPermitted}
use Rattle.vfs_model.specs.Store.{Separate}
use Rattle.vfs_model.specs.declared.layer.Group.{Group}
use Rattle.vfs_model.specs.declared.layer.Layer.{Layer}
use Rattle.vfs_model.specs.declared.layer.Layer.TheVariants.{Trace, Cksum, Append, Mux, Quota}
use Rattle.vfs_model.specs.declared.name.Kind.TheVariants.{Main}
use Rattle.db_format.specs.Header.{is_page_size}

-- ---- what is named

-- the databases of a session, their page size, and the layers of the stack from the top
pub record Plan : Type 0 where
  pub name : List ℕ
  pub attached : Option (List ℕ)
  pub page : ℕ
  pub layers : List Layer

-- the plan, and what else is asked: the folder, how many lines of a load, and their key
pub record Words : Type 0 where
  pub plan : Plan
  pub host : Option (List ℕ)
  pub load : Option ℕ
  pub key : ℕ

-- ---- the words one after the other

-- the options, each of which has a value
pub data Setting : Type 0 where
  Page : Setting
  Host : Setting
  Attach : Setting
  Load : Setting
  Key : Setting

abbrev pub setting_word : Setting → List ℕ
setting_word Page = codes "--page"
setting_word Host = codes "--host"
setting_word Attach = codes "--attach"
setting_word Load = codes "--load"
setting_word Key = codes "--key"

-- an option with its value, or a word that stands by itself
pub data Piece : Type 0 where
  sets : Setting → List ℕ → Piece
  stands : List ℕ → Piece

-- a dash, and more behind it: no value, and no word by itself unless `--` stands before it
abbrev pub is_dashed : List ℕ → Bool
is_dashed (b ∷ c ∷ more) = b == 45
is_dashed _ = false

-- an option is two words or one, with an equals sign (byte 61)
abbrev pub SpellsPiece : Piece → List (List ℕ) → Type 0
SpellsPiece (stands word) words = (words ≡ word ∷ []) × (is_dashed word ≡ false)
SpellsPiece (sets setting value) words =
    ((words ≡ setting_word setting ∷ value ∷ []) × (is_dashed value ≡ false)) ⊎ (words ≡ (setting_word setting ++ 61 ∷ value) ∷ [])

-- `--` ends the options: every word behind it stands by itself
abbrev pub AreBehind : List (List ℕ) → List (List ℕ) → Type 0
AreBehind words [] = (words ≡ []) ⊎ (words ≡ codes "--" ∷ [])
AreBehind words (word ∷ more) = words ≡ codes "--" ∷ word ∷ more

pub record SpellPieces (words : List (List ℕ)) (pieces : List Piece) : Type 0 where
  pub front : List Piece
  pub parts : List (List (List ℕ))
  pub each : AllZip SpellsPiece front parts
  pub behind : List (List ℕ)
  pub rest : List (List ℕ)
  pub ends : AreBehind rest behind
  pub words_are : words ≡ flat_map (λ part. part) parts ++ rest
  pub pieces_are : pieces ≡ front ++ map stands behind

-- the values of an option, and the words that stand by themselves
abbrev pub same_setting : Setting → Setting → Bool
same_setting Page Page = true
same_setting Host Host = true
same_setting Attach Attach = true
same_setting Load Load = true
same_setting Key Key = true
same_setting _ _ = false

abbrev pub values_of : Setting → List Piece → List (List ℕ)
values_of setting [] = []
values_of setting (sets other value ∷ more) = if same_setting setting other then value ∷ values_of setting more else values_of setting more
values_of setting (stands word ∷ more) = values_of setting more

abbrev pub standing : List Piece → List (List ℕ)
standing [] = []
standing (sets setting value ∷ more) = standing more
standing (stands word ∷ more) = word ∷ standing more

-- ---- numbers, names and layers

-- the word is a number without a sign in decimal, without needless zeros in front, within bounds
pub record IsCount (least most : ℕ) (word : List ℕ) (n : ℕ) : Type 0 where
  pub spelled : word ≡ decimal n
  pub no_less : least ≤ n
  pub no_more : n ≤ most

-- the option is there once with such a number, or it is not there and the number is another one
abbrev pub CountOf : List (List ℕ) → ℕ → ℕ → ℕ → ℕ → Type 0
CountOf [] default least most n = n ≡ default
CountOf (word ∷ []) default least most n = IsCount least most word n
CountOf (word ∷ other ∷ more) default least most n = ⊥

-- the same without another number
abbrev pub SomeCount : List (List ℕ) → ℕ → ℕ → Option ℕ → Type 0
SomeCount [] least most None = Unit {0}
SomeCount (word ∷ []) least most (Some n) = IsCount least most word n
SomeCount _ least most _ = ⊥

-- the option is there once, or not
abbrev pub SomeWord : List (List ℕ) → Option (List ℕ) → Type 0
SomeWord [] None = Unit {0}
SomeWord (word ∷ []) (Some other) = other ≡ word
SomeWord _ _ = ⊥

-- a database's name: a file name of at most 64 bytes and of the kind Main that begins with neither dash nor dot
pub record IsDatabaseName (name : List ℕ) : Type 0 where
  pub file : IsName name
  pub short : length name ≤ 64
  pub no_dash : slice_get name 0 ≢ Some 45
  pub no_dot : slice_get name 0 ≢ Some 46
  pub main : kind_of name ≡ Main

-- the names of the session's files: each database, its journal, and the super-journal of two
abbrev pub journal_name : List ℕ → List ℕ
journal_name name = name ++ codes "-journal"

abbrev pub file_names : List ℕ → Option (List ℕ) → List (List ℕ)
file_names name None = name ∷ journal_name name ∷ []
file_names name (Some other) = name ∷ journal_name name ∷ other ∷ journal_name other ∷ (name ++ codes "-with-" ++ other) ∷ []

-- the attached database has a name too, where there is one
abbrev pub IsAttachedName : Option (List ℕ) → Type 0
IsAttachedName None = Unit {0}
IsAttachedName (Some other) = IsDatabaseName other

-- `GLOB=LIMIT`
pub record SpellsGroup (part : List ℕ) (group : Group) : Type 0 where
  pub glob : IsPattern group.glob
  pub number : List ℕ
  pub spelled : part ≡ group.glob ++ 61 ∷ number
  pub limit : IsCount 0 (2 ^ 63 - 1) number group.limit

-- `quota:` and 1 to 8 groups, with a comma between two
pub record SpellsQuota (word : List ℕ) (groups : List Group) : Type 0 where
  pub parts : List (List ℕ)
  pub spelled : word ≡ codes "quota:" ++ join_with_byte 44 parts
  pub each : AllZip SpellsGroup parts groups
  pub some : 1 ≤ length groups
  pub few : length groups ≤ 8

-- the greatest chunk, and a size rounded up to a multiple of 65,536
abbrev pub greatest_chunk : ℕ
greatest_chunk = 2147418112

abbrev pub rounded : ℕ → ℕ
rounded size = (size + 65535) / 65536 * 65536

-- `mux:N`
pub record SpellsChunk (word : List ℕ) (chunk : ℕ) : Type 0 where
  pub number : List ℕ
  pub size : ℕ
  pub spelled : word ≡ codes "mux:" ++ number
  pub size_is : IsCount 1 greatest_chunk number size
  pub rounded_is : chunk ≡ rounded size

-- the word names the layer, where the databases have this page size
abbrev pub SpellsLayer : ℕ → List ℕ → Layer → Type 0
SpellsLayer page word Trace = word ≡ codes "trace"
SpellsLayer page word (Cksum size) = (word ≡ codes "cksum") × (size ≡ page)
SpellsLayer page word Append = word ≡ codes "append"
SpellsLayer page word (Mux chunk) = ((word ≡ codes "mux") × (chunk ≡ greatest_chunk)) ⊎ SpellsChunk word chunk
SpellsLayer page word (Quota groups) = SpellsQuota word groups

-- ---- the plan

-- the words name this
pub record NameWords (words : List (List ℕ)) (named : Words) : Type 0 where
  pub pieces : List Piece
  pub spelled : SpellPieces words pieces
  pub layer_words : List (List ℕ)
  pub placed : standing pieces ≡ named.plan.name ∷ layer_words
  pub page_is : CountOf (values_of Page pieces) 4096 512 65536 named.plan.page
  pub power : IsTrue (is_page_size named.plan.page)
  pub host_is : SomeWord (values_of Host pieces) named.host
  pub attached_is : SomeWord (values_of Attach pieces) named.plan.attached
  pub load_is : SomeCount (values_of Load pieces) 1 1000000 named.load
  pub key_is : CountOf (values_of Key pieces) 0 0 (2 ^ 64 - 1) named.key
  pub name : IsDatabaseName named.plan.name
  pub attached : IsAttachedName named.plan.attached
  pub separate : AllPairs Separate (file_names named.plan.name named.plan.attached)
  pub layers_are : AllZip (SpellsLayer named.plan.page) layer_words named.plan.layers
  pub permitted : IsPermitted named.plan.layers

-- a name alone: pages of 4096 bytes, no layer, no option
abbrev pub plain_words : List ℕ → Words
plain_words name = record { plan = record { name = name; attached = None; page = 4096; layers = [] }; host = None; load = None; key = 0 }

-- ---- the laws

-- one word that is a database's name names it, with nothing else, and names nothing else
pub record OneWord : Type 0 where
  pub names : (name : List ℕ) → IsDatabaseName name → NameWords (name ∷ []) (plain_words name)
  pub alone : (word : List ℕ) (named : Words) → NameWords (word ∷ []) named → IsDatabaseName word × (named ≡ plain_words word)

-- words name one plan at most, and one folder, load and key beside it
pub record OnePlan : Type 0 where
  pub same : (words : List (List ℕ)) (one other : Words) → NameWords words one → NameWords words other → one ≡ other
