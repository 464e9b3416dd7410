-- What a name holds after files were written one after another.
use Rattle.std.proofs.Common.{◌≡◌, ◌≢◌, ℕ, List, Some}
use Rattle.std.specs.Ordering.{nat_cmp}
use Rattle.std.specs.Cmp.Lexicographic.{slice_cmp, nat_list_cmp_total}
use Rattle.std.specs.FinMap as map
use Rattle.esa_lists.specs.Files.{Files}
use Rattle.esa_lists.proofs.MapLaws as laws

-- only equal names tie
pub names_apart : map.IsAntisymmetric (slice_cmp nat_cmp)
names_apart = map.slice_cmp-IsAntisymmetric map.nat_cmp-IsAntisymmetric

pub get-insert-same : (files : Files) (name bytes : List ℕ) → map.get (map.insert files name bytes) name ≡ Some bytes
get-insert-same files name bytes = laws.get-insert-same nat_list_cmp_total names_apart files name bytes

pub get-insert-other : (files : Files) (name other bytes : List ℕ) → other ≢ name → map.get (map.insert files name bytes) other ≡ map.get files other
get-insert-other files name other bytes differs = laws.get-insert-other nat_list_cmp_total names_apart files name other bytes differs

-- the later write of a name is the one that counts
pub insert-insert : (files : Files) (name first second : List ℕ) → map.insert (map.insert files name first) name second ≡ map.insert files name second
insert-insert files name first second = laws.insert-insert nat_list_cmp_total names_apart files name first second

-- to write what is there changes nothing
pub insert-there : (files : Files) (name bytes : List ℕ) → map.get files name ≡ Some bytes → map.insert files name bytes ≡ files
insert-there files name bytes there = laws.insert-there nat_list_cmp_total names_apart files name bytes there

-- two names may be written in either order
pub insert-comm : (files : Files) (name other first second : List ℕ) → name ≢ other → map.insert (map.insert files name first) other second ≡ map.insert (map.insert files other second) name first
insert-comm files name other first second differs = laws.insert-comm nat_list_cmp_total names_apart files name other first second differs

-- folders that answer alike are one folder
pub same_files : (files others : Files) → ((name : List ℕ) → map.get files name ≡ map.get others name) → files ≡ others
same_files files others alike = map.same_map nat_list_cmp_total names_apart files others alike
