-- How the items of lists are linked in a slab. No public clause cites this module. This project's own.
use Rattle.std.specs.Prelude.{◌≡◌, ℕ, zero, suc, ◌≤◌, Option, Some, None, IsSome, List, [], ◌∷◌, map, length, All, sum_by, slice_index_or}
use Rattle.slab.specs.Slab.{Slab, get, slab_len, with_value}
use Rattle.hp_work.specs.declared.chains.Node.{Node}
use Rattle.hp_work.specs.declared.chains.Chain.{Chain}
use Rattle.hp_work.specs.declared.chains.TheConstants.{LISTS}
use Rattle.hp_work.specs.declared.limits.TheConstants.{MAX_ITEMS}
use Rattle.hp_work.specs.Lists.{times_in}

abbrev pub item_in : Option Node → ℕ
item_in None = 0
item_in (Some node) = node.item

abbrev pub next_in : Option Node → ℕ
next_in None = 0
next_in (Some node) = node.next

-- so many keys, each the one behind the other
abbrev pub keys_from : Slab Node → (many key : ℕ) → List ℕ
keys_from s zero k = []
keys_from s (suc n) k = k ∷ keys_from s n (next_in (get s k))

-- the key so many links behind one
abbrev pub key_behind : Slab Node → (many key : ℕ) → ℕ
key_behind s zero k = k
key_behind s (suc n) k = key_behind s n (next_in (get s k))

abbrev pub keys_of : Slab Node → Chain → List ℕ
keys_of s c = keys_from s c.many c.first

-- the item at a key, those of a list, and those of all
abbrev pub item_at : Slab Node → (key : ℕ) → ℕ
item_at s k = item_in (get s k)

abbrev pub items_of : Slab Node → Chain → List ℕ
items_of s c = map (item_at s) (keys_of s c)

abbrev pub lists_of : Slab Node → List Chain → List (List ℕ)
lists_of s chains = map (items_of s) chains

-- a list without items, and the one at a place
abbrev pub no_items : Chain
no_items = record { first = 0; last = 0; many = 0 }

abbrev pub chain_at : List Chain → (place : ℕ) → Chain
chain_at chains p = slice_index_or chains p no_items

-- an item stands at each key of a list, and the last key is the one noted
pub record IsChain (s : Slab Node) (c : Chain) : Type 0 where
  pub there : All (λ k. IsSome (get s k)) (keys_of s c)
  pub last_is : (before : ℕ) → c.many ≡ suc before → key_behind s before c.first ≡ c.last

-- the items of the lists are those of the slab, each once, and there is room for all that can be put
pub record IsChained (s : Slab Node) (chains : List Chain) : Type 0 where
  pub lists_are : length chains ≡ LISTS
  pub each : All (IsChain s) chains
  pub once : (item : ℕ) → times_in item (lists_of s chains) ≤ 1
  pub all_there : slab_len s ≡ sum_by length (lists_of s chains)
  pub few : sum_by length (lists_of s chains) ≤ MAX_ITEMS
  pub room : MAX_ITEMS ≤ s.capacity

-- a node's link is another
abbrev pub relinked : (key next : ℕ) → Option Node → Slab Node → Slab Node
relinked k n None s = s
relinked k n (Some node) s = with_value s k (record node { next = n })

abbrev pub linked : (key next : ℕ) → Slab Node → Slab Node
linked k n s = relinked k n (get s k) s
