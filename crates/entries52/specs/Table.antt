-- Table 5-2 of document 001 as it is printed, "in tenths of kha": "each numbered from 0 in the document's order without totals".
use Rattle.std.specs.Prelude.{ℕ, ◌*◌, List, [], ◌∷◌, pos, neg_ℤ, Option, Some, None, ℤ}

abbrev pub countries : ℕ
countries = 90

abbrev pub zones : ℕ
zones = 6

abbrev pub entries : ℕ
entries = countries * zones

-- what is printed of a country in a zone: "the forest area of 1980, of 1990 and the yearly conversion rate"; a blank is not given
pub record Printed : Type 0 where
  pub area1980 : Option ℤ
  pub area1990 : Option ℤ
  pub rate : Option ℤ

-- the five ways in which an entry is printed: all three figures, nothing, no rate, a rate below zero, no area of 1990
abbrev all : ℕ → ℕ → ℕ → Printed
all a b r = record { area1980 = Some (pos a); area1990 = Some (pos b); rate = Some (pos r) }

abbrev pub none : Printed
none = record { area1980 = None; area1990 = None; rate = None }

abbrev no_rate : ℕ → ℕ → Printed
no_rate a b = record { area1980 = Some (pos a); area1990 = Some (pos b); rate = None }

abbrev rising : ℕ → ℕ → ℕ → Printed
rising a b r = record { area1980 = Some (pos a); area1990 = Some (pos b); rate = Some (neg_ℤ (pos r)) }

abbrev no1990 : ℕ → ℕ → Printed
no1990 a r = record { area1980 = Some (pos a); area1990 = None; rate = Some (pos r) }

-- country by country, the six zones of each: very moist, moist with a short dry season, moist with a long dry season, dry, moist montane, dry montane
unfoldable pub table : List Printed
table =
    -- 0 Angola
    none ∷ all 31233 29045 219 ∷ all 97179 90373 681 ∷ all 77618 72181 544 ∷ all 34013 31631 238 ∷ none ∷
    -- 1 Botswana
    none ∷ none ∷ none ∷ all 30989 29404 158 ∷ none ∷ none ∷
    -- 2 Burundi
    none ∷ none ∷ all 506 470 4 ∷ none ∷ all 598 568 3 ∷ all 1362 1288 7 ∷
    -- 3 Camerún
    all 83860 80205 365 ∷ all 85732 80981 475 ∷ all 19875 17936 194 ∷ all 6378 5845 53 ∷ all 18977 17674 130 ∷ none ∷
    -- 4 Cabo Verde
    none ∷ none ∷ none ∷ none ∷ none ∷ none ∷
    -- 5 Rep. C. Africana
    no_rate 7063 7063 ∷ all 110952 105047 590 ∷ all 184009 177618 639 ∷ all 8458 8168 29 ∷ all 8063 7722 34 ∷ none ∷
    -- 6 Chad
    none ∷ none ∷ all 44140 39322 482 ∷ all 52855 50243 261 ∷ none ∷ none ∷
    -- 7 Congo
    all 77948 76671 128 ∷ all 123930 121979 195 ∷ none ∷ none ∷ none ∷ none ∷
    -- 8 Benin
    none ∷ all 8471 8384 9 ∷ all 39031 33445 559 ∷ all 8941 7644 130 ∷ none ∷ none ∷
    -- 9 Guinea Ecuat.
    all 9157 8822 33 ∷ all 9654 9296 36 ∷ none ∷ none ∷ all 149 143 1 ∷ none ∷
    -- 10 Etiopía
    none ∷ none ∷ none ∷ all 20658 20076 58 ∷ all 55242 53479 176 ∷ all 8383 8249 13 ∷
    -- 11 Djibouti
    none ∷ none ∷ none ∷ none ∷ none ∷ none ∷
    -- 12 Gabón
    all 12282 11545 74 ∷ all 181700 170800 1090 ∷ none ∷ none ∷ none ∷ none ∷
    -- 13 Gambia
    none ∷ none ∷ all 855 791 6 ∷ all 190 175 1 ∷ none ∷ none ∷
    -- 14 Ghana
    none ∷ all 39109 35759 335 ∷ all 65810 55755 1005 ∷ all 4382 4038 34 ∷ none ∷ none ∷
    -- 15 Guinea
    all 3883 3847 4 ∷ all 12043 11198 85 ∷ all 58200 50602 760 ∷ none ∷ all 1454 1276 18 ∷ none ∷
    -- 16 Costa de Marfil
    none ∷ all 85370 75192 1018 ∷ all 34828 33121 171 ∷ none ∷ all 776 727 5 ∷ none ∷
    -- 17 Kenya
    none ∷ no_rate 129 129 ∷ none ∷ no_rate 188 188 ∷ all 7254 6780 47 ∷ all 2400 2302 10 ∷
    -- 18 Liberia
    all 9480 8925 55 ∷ all 39391 37408 198 ∷ none ∷ none ∷ all 2 2 0 ∷ none ∷
    -- 19 Madagascar
    all 47809 45067 274 ∷ none ∷ all 41909 37771 414 ∷ all 24245 22193 205 ∷ all 49854 45962 389 ∷ none ∷
    -- 20 Malawi
    none ∷ none ∷ all 33979 29477 450 ∷ all 1910 1656 25 ∷ all 4221 3727 49 ∷ none ∷
    -- 21 Malí
    none ∷ none ∷ all 40828 37056 377 ∷ all 49546 45476 407 ∷ none ∷ none ∷
    -- 22 Mauritania
    none ∷ none ∷ none ∷ none ∷ none ∷ none ∷
    -- 23 Mozambique
    none ∷ all 9659 9030 63 ∷ all 61805 56230 557 ∷ all 108811 101629 718 ∷ all 140 131 1 ∷ none ∷
    -- 24 Namibia
    none ∷ none ∷ none ∷ all 26073 25209 86 ∷ none ∷ none ∷
    -- 25 Níger
    none ∷ none ∷ none ∷ no_rate 1904 1904 ∷ none ∷ none ∷
    -- 26 Nigeria
    all 12691 11966 72 ∷ all 63714 59835 388 ∷ all 66491 60275 622 ∷ all 14446 13801 64 ∷ all 2674 2432 24 ∷ none ∷
    -- 27 Guinea-Bissau
    none ∷ no_rate 1294 1294 ∷ all 20509 18920 159 ∷ none ∷ none ∷ none ∷
    -- 28 Zimbabwe
    none ∷ none ∷ none ∷ all 82588 77294 529 ∷ all 733 686 5 ∷ none ∷
    -- 29 Ruanda
    none ∷ none ∷ none ∷ none ∷ all 1375 1340 3 ∷ all 307 299 1 ∷
    -- 30 Senegal
    none ∷ none ∷ all 27669 25859 181 ∷ all 18458 17163 129 ∷ none ∷ none ∷
    -- 31 Sierra Leona
    all 8052 7561 49 ∷ all 8833 8294 54 ∷ all 2965 2784 18 ∷ none ∷ all 263 247 2 ∷ none ∷
    -- 32 Somalia
    none ∷ none ∷ none ∷ none ∷ none ∷ none ∷
    -- 33 Sudán
    none ∷ all 21493 17975 352 ∷ all 124561 106749 1781 ∷ all 195146 177572 1757 ∷ all 6003 5023 98 ∷ all 2359 2173 19 ∷
    -- 34 Tanzania
    none ∷ all 6677 6260 42 ∷ all 157385 135022 2236 ∷ all 136777 123746 1303 ∷ all 30547 27052 349 ∷ all 3678 3295 38 ∷
    -- 35 Togo
    none ∷ all 3205 2931 27 ∷ all 12140 10252 189 ∷ all 369 345 2 ∷ none ∷ none ∷
    -- 36 Uganda
    none ∷ none ∷ all 12290 10908 138 ∷ none ∷ all 47010 42815 420 ∷ all 7631 6982 65 ∷
    -- 37 Burkina Faso
    none ∷ none ∷ all 22651 21125 153 ∷ all 16438 15331 111 ∷ none ∷ none ∷
    -- 38 Zaire
    all 640477 604366 3611 ∷ all 427691 403801 2389 ∷ all 54467 48290 618 ∷ all 1182 1110 7 ∷ all 81385 74483 690 ∷ all 764 698 7 ∷
    -- 39 Zambia
    none ∷ none ∷ all 242212 216761 2545 ∷ all 113478 102877 1060 ∷ all 3616 3375 24 ∷ none ∷
    -- 40 Bangladesh
    all 8955 5722 323 ∷ none ∷ all 2495 1973 52 ∷ none ∷ none ∷ none ∷
    -- 41 Bután
    all 1863 1760 10 ∷ none ∷ none ∷ none ∷ all 23609 22304 131 ∷ none ∷
    -- 42 Brunei
    all 4764 4583 18 ∷ none ∷ none ∷ none ∷ none ∷ none ∷
    -- 43 Myanmar
    all 137099 120938 1616 ∷ none ∷ all 121238 104267 1697 ∷ all 3934 3511 42 ∷ all 65888 59418 647 ∷ none ∷
    -- 44 Sri Lanka
    all 2632 2470 16 ∷ none ∷ all 7058 6053 101 ∷ all 9881 8361 152 ∷ all 576 573 0 ∷ none ∷
    -- 45 India
    all 87234 82285 495 ∷ none ∷ all 74228 70447 378 ∷ all 283935 262523 2141 ∷ all 91590 88038 355 ∷ no_rate 1164 1164 ∷
    -- 46 Indonesia
    all 1042118 939499 10262 ∷ all 32840 30053 279 ∷ all 4578 3608 97 ∷ all 800 729 7 ∷ all 135559 120832 1473 ∷ none ∷
    -- 47 Cambodia
    all 18730 16893 184 ∷ none ∷ all 40029 36104 393 ∷ all 75068 67707 736 ∷ all 945 927 2 ∷ none ∷
    -- 48 Laos
    all 43564 39602 396 ∷ none ∷ all 49699 45424 427 ∷ all 24735 22670 207 ∷ all 26675 24035 264 ∷ none ∷
    -- 49 Malasia
    all 200280 163388 3689 ∷ none ∷ none ∷ none ∷ all 15176 12443 273 ∷ none ∷
    -- 50 Nepal
    all 6479 6087 39 ∷ none ∷ all 13828 13001 83 ∷ all 393 371 2 ∷ all 26912 23612 330 ∷ none ∷
    -- 51 Pakistán
    none ∷ none ∷ all 154 109 5 ∷ all 59 42 2 ∷ all 8245 5833 241 ∷ all 11864 8393 347 ∷
    -- 52 Papua N.Guinea
    all 302442 293235 921 ∷ all 7272 7050 22 ∷ none ∷ all 4304 4172 13 ∷ all 55384 53698 169 ∷ none ∷
    -- 53 Filipinas
    all 66102 42142 2396 ∷ all 9196 5936 326 ∷ all 14421 10040 438 ∷ none ∷ no_rate 20194 20194 ∷ none ∷
    -- 54 Singapur
    no_rate 44 44 ∷ none ∷ none ∷ none ∷ none ∷ none ∷
    -- 55 Tailandia
    all 45899 30816 1508 ∷ none ∷ all 71893 52317 1958 ∷ all 43826 31591 1223 ∷ all 17261 12629 463 ∷ none ∷
    -- 56 Vietnam
    all 33716 28945 477 ∷ none ∷ all 39391 33816 557 ∷ all 11085 9516 157 ∷ all 12633 10845 179 ∷ none ∷
    -- 57 Antigua y Barbuda
    none ∷ none ∷ all 100 98 0 ∷ none ∷ none ∷ none ∷
    -- 58 Bahamas
    none ∷ none ∷ all 1537 1238 30 ∷ all 587 473 11 ∷ all 78 63 2 ∷ none ∷
    -- 59 Bolivia
    none ∷ all 239677 214538 2514 ∷ all 160249 141282 1897 ∷ all 82616 73455 916 ∷ all 72531 63396 913 ∷ all 517 455 6 ∷
    -- 60 Brasil
    all 3017223 2915966 10126 ∷ all 951970 877291 7468 ∷ all 1189439 1093532 9591 ∷ all 319890 288625 3126 ∷ all 499637 435652 6399 ∷ none ∷
    -- 61 Belice
    all 17980 17554 43 ∷ none ∷ no_rate 2384 2384 ∷ none ∷ all 98 24 7 ∷ none ∷
    -- 62 Colombia
    all 496826 474553 2227 ∷ all 7057 5495 156 ∷ all 43471 35510 796 ∷ all 219 180 4 ∷ all 29718 24863 486 ∷ all 48 37 1 ∷
    -- 63 Costa Rica
    all 8422 6251 217 ∷ none ∷ all 0 0 0 ∷ none ∷ all 10811 8025 279 ∷ none ∷
    -- 64 Cuba
    all 1253 1138 11 ∷ none ∷ all 13726 12468 126 ∷ all 25 23 0 ∷ all 3215 2920 29 ∷ all 659 599 6 ∷
    -- 65 Dominica
    all 473 441 3 ∷ none ∷ none ∷ none ∷ none ∷ none ∷
    -- 66 Rep. Dominicana
    all 4518 3409 111 ∷ none ∷ all 3623 2733 89 ∷ none ∷ all 5538 4178 136 ∷ all 601 453 15 ∷
    -- 67 Ecuador
    all 85724 71499 1423 ∷ all 16195 13508 269 ∷ all 3810 3178 63 ∷ all 522 435 9 ∷ all 37166 30999 617 ∷ none ∷
    -- 68 El Salvador
    all 408 326 8 ∷ none ∷ all 153 122 3 ∷ none ∷ all 985 785 20 ∷ none ∷
    -- 69 Guyana francesa
    all 79962 79935 3 ∷ no_rate 31 31 ∷ none ∷ none ∷ none ∷ none ∷
    -- 70 Granada
    none ∷ none ∷ rising 36 55 2 ∷ none ∷ none ∷ none ∷
    -- 71 Guadalupe
    all 955 925 3 ∷ none ∷ none ∷ none ∷ none ∷ none ∷
    -- 72 Guatemala
    all 38201 34029 417 ∷ none ∷ no_rate 7305 7305 ∷ none ∷ all 4633 917 372 ∷ no1990 240 24 ∷
    -- 73 Guyana
    no_rate 116711 116711 ∷ all 12179 11761 42 ∷ all 40398 39014 138 ∷ none ∷ no_rate 16677 16677 ∷ none ∷
    -- 74 Haití
    all 74 45 3 ∷ none ∷ all 143 88 6 ∷ all 0 0 0 ∷ all 146 90 6 ∷ all 16 10 1 ∷
    -- 75 Honduras
    all 15975 12859 312 ∷ none ∷ all 5424 4366 106 ∷ none ∷ all 34424 27709 671 ∷ all 1382 1112 27 ∷
    -- 76 Jamaica
    all 2594 1222 137 ∷ none ∷ all 2407 1134 127 ∷ all 2 1 0 ∷ all 57 27 3 ∷ all 15 7 1 ∷
    -- 77 Martinica
    all 450 428 2 ∷ none ∷ none ∷ none ∷ no_rate 0 0 ∷ none ∷
    -- 78 México
    all 27176 24408 277 ∷ none ∷ all 130911 111103 1981 ∷ all 18868 15903 296 ∷ all 99096 89039 1006 ∷ all 250700 223568 2713 ∷
    -- 79 Nicaragua
    all 44778 37122 766 ∷ none ∷ all 4196 3478 72 ∷ none ∷ all 23561 19533 403 ∷ none ∷
    -- 80 Panamá
    all 21366 18018 335 ∷ none ∷ all 676 665 1 ∷ none ∷ all 15563 12486 308 ∷ none ∷
    -- 81 Paraguay
    none ∷ all 8432 4730 370 ∷ all 76814 55642 2117 ∷ all 83052 67941 1511 ∷ all 541 273 27 ∷ none ∷
    -- 82 Perú
    all 415010 403580 1143 ∷ all 126793 122988 381 ∷ none ∷ all 228 188 4 ∷ all 157429 146923 1051 ∷ all 1020 849 17 ∷
    -- 83 Puerto Rico
    rising 428 494 7 ∷ none ∷ rising 1307 1506 20 ∷ none ∷ rising 1046 1205 16 ∷ none ∷
    -- 84 St. Kitts y Nevis
    none ∷ none ∷ all 130 132 0 ∷ none ∷ none ∷ none ∷
    -- 85 St. Lucía
    all 77 45 3 ∷ none ∷ none ∷ none ∷ none ∷ none ∷
    -- 86 St. Vincent
    all 127 103 2 ∷ none ∷ all 3 2 0 ∷ none ∷ none ∷ none ∷
    -- 87 Surinam
    all 94902 94053 85 ∷ all 10867 10445 42 ∷ no_rate 43177 43177 ∷ none ∷ none ∷ none ∷
    -- 88 Trinidad y Tobago
    all 1918 1550 37 ∷ none ∷ none ∷ none ∷ none ∷ none ∷
    -- 89 Venezuela
    all 210738 196018 1472 ∷ all 34347 29781 457 ∷ all 154030 124873 2916 ∷ all 3266 2219 105 ∷ all 114002 103718 1028 ∷ all 259 178 8 ∷
    []
